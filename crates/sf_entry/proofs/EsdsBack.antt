-- Descriptors that are written and read back.
use Rattle.std.proofs.Common.{◌≡◌, ℕ, ◌+◌, ◌*◌, ◌/◌, ◌%◌, ◌^◌, ◌<◌, ◌≤◌, ltb, nat_eq, true, false, List, [], ◌∷◌, ◌++◌, length, Some, refl, sym, ap, ◌∙◌, append_assoc, arith}
use Rattle.std.proofs.lemmas.Bool.{le-ltb, eq-eqb}
use Rattle.std.proofs.lemmas.List.{length-append, drop_at, take_at, append-nil}
use Rattle.sf_entry.specs.Esds.{◌>>=◌, past, length_in, front, descriptor_in, after_dependence, after_address, after_clock, after_stream, after_decoder, config_in}
use Rattle.sf_entry.specs.Mp4a.{zeros, size_bytes, descriptor, decoder_body, stream_body, esds_body}
use Rattle.sf_entry.proofs.LengthLemmas.{length_last, length_more}

-- the seven bits of each of four bytes make the number
four_sevens : (n : ℕ) → n < 2 ^ 28
    → 128 * (128 * (128 * (128 * 0 + (128 + n / 2097152 % 128) % 128) + (128 + n / 16384 % 128) % 128) + (128 + n / 128 % 128) % 128) + n % 128 % 128 ≡ n
four_sevens n lt = omega (arith, lt)

-- a length that was written is read back
length_back : (n : ℕ) (rest : List ℕ) → n < 2 ^ 28 → length_in 4 0 (size_bytes n ++ rest) ≡ Some (n, rest)
unfolding size_bytes
length_back n rest lt =
    length_more 4 3 0 (128 + n / 2097152 % 128) _ _ refl refl (omega arith)
    ∙ length_more 3 2 _ (128 + n / 16384 % 128) _ _ refl refl (omega arith)
    ∙ length_more 2 1 _ (128 + n / 128 % 128) _ _ refl refl (omega arith)
    ∙ length_last 1 _ (n % 128) rest _ refl (omega arith) (omega arith)
    ∙ ap (λ (m : ℕ). Some (m, rest)) (four_sevens n lt)

-- so many bytes in front
past_front : (bytes rest : List ℕ) (n : ℕ) → length bytes ≡ n → past n (bytes ++ rest) ≡ Some rest
unfolding past
past_front bytes rest n e =
    let enough : ltb (length (bytes ++ rest)) n ≡ false = le-ltb _ _ (omega (arith, length-append bytes rest, e)) in
    rw (enough, drop_at bytes rest n e) refl

-- a body that has all its bytes
front_back : (body rest : List ℕ) → front (length body, body ++ rest) ≡ Some body
front_back body rest =
    let enough : ltb (length (body ++ rest)) (length body) ≡ false = le-ltb _ _ (omega (arith, length-append body rest)) in
    rw (enough, take_at body rest (length body) refl) refl

-- a descriptor that was written is read back
descriptor_back : (tag : ℕ) (body rest : List ℕ) → length body < 2 ^ 28 → descriptor_in tag (descriptor tag body ++ rest) ≡ Some body
unfolding descriptor_in descriptor
descriptor_back tag body rest lt =
    let same : nat_eq tag tag ≡ true = eq-eqb tag tag refl in
    let parts : (size_bytes (length body) ++ body) ++ rest ≡ size_bytes (length body) ++ (body ++ rest) = append_assoc (size_bytes (length body)) body rest in
    rw (same, parts, length_back (length body) (body ++ rest) lt) (front_back body rest)

descriptor_alone : (tag : ℕ) (body : List ℕ) → length body < 2 ^ 28 → descriptor_in tag (descriptor tag body) ≡ Some body
descriptor_alone tag body lt = ap (descriptor_in tag) (sym (append-nil (descriptor tag body))) ∙ descriptor_back tag body [] lt

length-descriptor : (tag : ℕ) (body : List ℕ) → length (descriptor tag body) ≡ 5 + length body
unfolding descriptor size_bytes
length-descriptor tag body = omega arith

length-decoder_body : (config : List ℕ) → length (decoder_body config) ≡ 18 + length config
unfolding decoder_body
length-decoder_body config = omega (arith, length-descriptor 5 config)

length-stream_body : (config : List ℕ) → length (stream_body config) ≡ 32 + length config
unfolding stream_body
length-stream_body config =
    omega (arith, length-append (descriptor 4 (decoder_body config)) (descriptor 6 (2 ∷ [])), length-descriptor 4 (decoder_body config), length-descriptor 6 (2 ∷ []), length-decoder_body config)

pub length-esds_body : (config : List ℕ) → length (esds_body config) ≡ 41 + length config
unfolding esds_body
length-esds_body config = omega (arith, length-descriptor 3 (stream_body config), length-stream_body config)

-- the decoder's descriptor stands after the three bytes of the stream
stream_fields : (rest : List ℕ) → after_stream (zeros 3 ++ rest) ≡ Some rest
unfolding after_stream after_dependence after_address after_clock
stream_fields rest = refl

-- the configuration stands after the thirteen bytes of the decoder
decoder_fields : (rest : List ℕ) → after_decoder ((0x40 ∷ 0x15 ∷ []) ++ (zeros 11 ++ rest)) ≡ Some rest
unfolding after_decoder
decoder_fields rest = past_front (0x15 ∷ zeros 11) rest 12 refl

-- the configuration in the body of a decoder's descriptor
decoder_back : (config : List ℕ) → length config ≤ 65536 → (after_decoder (decoder_body config) >>= (λ decoders. descriptor_in 5 decoders)) ≡ Some config
unfolding decoder_body
decoder_back config le = rw (decoder_fields (descriptor 5 config)) (descriptor_alone 5 config (omega (arith, le)))

-- the same in the body of a stream's descriptor
stream_back : (config : List ℕ) → length config ≤ 65536
    → (after_stream (stream_body config) >>= (λ streams. descriptor_in 4 streams >>= (λ decoder. after_decoder decoder >>= (λ decoders. descriptor_in 5 decoders)))) ≡ Some config
unfolding stream_body
stream_back config le =
    rw (
      stream_fields (descriptor 4 (decoder_body config) ++ descriptor 6 (2 ∷ [])),
      descriptor_back 4 (decoder_body config) (descriptor 6 (2 ∷ [])) (omega (arith, le, length-decoder_body config)),
    )
    (decoder_back config le)

-- the configuration that was written is read back
pub esds_back : (config : List ℕ) → length config ≤ 65536 → config_in (esds_body config) ≡ Some config
unfolding config_in esds_body
esds_back config le =
    rw (past_front (zeros 4) (descriptor 3 (stream_body config)) 4 refl, descriptor_alone 3 (stream_body config) (omega (arith, le, length-stream_body config)))
    (stream_back config le)
