-- The record of a sample.
use Rattle.std.proofs.Common.{◌≡◌, ℕ, ◌+◌, List, [], ◌∷◌, ◌++◌, length, take, drop, Option, Some, None, option_map, option_and_then, unwrap_or, Result, Ok, Err, sym, ap, ◌∙◌, arith}
use Rattle.std.proofs.lemmas.List.{append_assoc, length-append, take_at, drop_at}
use Rattle.std.specs.Int.{w64, cast_unsigned}
use Rattle.sf_avc.specs.declared.prefixed.LengthFault.{LengthFault}
use Rattle.sf_avc.specs.declared.prefixed.LengthFault.TheVariants.{BadLength}
use Rattle.sf_box.specs.Boxes.{be32, be64}
use Rattle.sf_box.proofs.BoxLaws.{length-be32}
use Rattle.sf_meaning.specs.declared.movie.PlainSample.{PlainSample}
use Rattle.sf_movie.specs.Loaded.{Loaded, sample_of}
use Rattle.sf_extract.specs.Current.{Extracting, current, current_sample, flags_of}
use Rattle.sf_extract.specs.HandedOut.{handed_now, handed_out}
use Rattle.sf_extract.specs.Readout.{given, record_of, record_or}
use Rattle.sf_extract.specs.Runs.{given_now}
use Rattle.sf_extract.specs.inner.Acts.{record_head, record_with}
use Rattle.sf_extract.specs.declared.types.Standing.{Standing}
use Rattle.sf_extract.proofs.RunLemmas.{some_same}

given_ok_by : (l : Loaded) (c : Standing) (stored bytes : List ℕ) (o : Option PlainSample) → option_map (λ s. handed_out l c.track s stored) o ≡ Some (Ok bytes)
    → option_map (λ s. given l c s stored) o ≡ Some (Ok (record_with c (unwrap_or (option_map flags_of o) 0) bytes))
unfolding given record_of
given_ok_by l c stored bytes None e = absurd (grind (arith, e))
given_ok_by l c stored bytes (Some s) e = ap (λ (h : Result (List ℕ) LengthFault). Some (record_or c s h)) (some_same (handed_out l c.track s stored) (Ok bytes) e)

given_bad_by : (l : Loaded) (c : Standing) (stored : List ℕ) (at : ℕ) (o : Option PlainSample) → option_map (λ s. handed_out l c.track s stored) o ≡ Some (Err (BadLength at))
    → option_map (λ s. given l c s stored) o ≡ Some (Err (record { track = c.track; sample = c.sample; at = at }))
unfolding given
given_bad_by l c stored at None e = absurd (grind (arith, e))
given_bad_by l c stored at (Some s) e = ap (λ (h : Result (List ℕ) LengthFault). Some (record_or c s h)) (some_same (handed_out l c.track s stored) (Err (BadLength at)) e)

handed_at : (e : Extracting) (c : Standing) (stored : List ℕ) (r : Result (List ℕ) LengthFault) → current e ≡ Some c → handed_now e stored ≡ Some r
    → option_map (λ s. handed_out e.loaded c.track s stored) (sample_of e.loaded.movie c.track c.sample) ≡ Some r
handed_at e c stored r is h =
    sym (ap (λ (o : Option Standing). option_and_then (λ c. option_map (λ s. handed_out e.loaded c.track s stored) (sample_of e.loaded.movie c.track c.sample)) o) is) ∙ h

given_at : (e : Extracting) (c : Standing) (stored : List ℕ) → current e ≡ Some c
    → given_now e stored ≡ option_map (λ s. given e.loaded c s stored) (sample_of e.loaded.movie c.track c.sample)
given_at e c stored is = ap (λ (o : Option Standing). option_and_then (λ c. option_map (λ s. given e.loaded c s stored) (sample_of e.loaded.movie c.track c.sample)) o) is

-- what is handed out is given as a record
pub given_ok : (e : Extracting) (c : Standing) (stored bytes : List ℕ) (flags : Option ℕ) → current e ≡ Some c → handed_now e stored ≡ Some (Ok bytes)
    → flags ≡ option_map flags_of (current_sample e) → given_now e stored ≡ Some (Ok (record_with c (unwrap_or flags 0) bytes))
given_ok e c stored bytes flags is h f =
    let at : current_sample e ≡ sample_of e.loaded.movie c.track c.sample = ap (λ (o : Option Standing). option_and_then (λ c. sample_of e.loaded.movie c.track c.sample) o) is in
    given_at e c stored is ∙ given_ok_by e.loaded c stored bytes (sample_of e.loaded.movie c.track c.sample) (handed_at e c stored (Ok bytes) is h)
    ∙ ap (λ (x : Option ℕ). Some (Ok (record_with c (unwrap_or x 0) bytes))) (sym (f ∙ ap (option_map flags_of) at))

-- a refused length refuses the sample
pub given_bad : (e : Extracting) (c : Standing) (stored : List ℕ) (at : ℕ) → current e ≡ Some c → handed_now e stored ≡ Some (Err (BadLength at))
    → given_now e stored ≡ Some (Err (record { track = c.track; sample = c.sample; at = at }))
given_bad e c stored at is h = given_at e c stored is ∙ given_bad_by e.loaded c stored at (sample_of e.loaded.movie c.track c.sample) (handed_at e c stored _ is h)

-- what stands before the length of a record, put out number by number
pub head_is : (old a b d e : List ℕ) (c : Standing) (flags : ℕ) → a ≡ old ++ 1 ∷ [] → b ≡ a ++ be32 c.track → d ≡ b ++ be32 flags → e ≡ d ++ be64 (cast_unsigned w64 c.shown_us)
    → e ≡ old ++ record_head c flags
head_is old a b d e c flags ae be de ee =
    ee ∙ ap (λ (x : List ℕ). x ++ be64 (cast_unsigned w64 c.shown_us)) (de ∙ ap (λ (x : List ℕ). x ++ be32 flags) (be ∙ ap (λ (x : List ℕ). x ++ be32 c.track) ae)) ∙ simp append_assoc

-- a record whose length is written at its place
pub patched_is : (old front wide mid bytes more : List ℕ) (c : Standing) (flags at : ℕ) → front ≡ old ++ record_head c flags → wide ≡ front ++ be32 0 → mid ≡ wide ++ bytes → at ≡ length front
    → more ≡ be32 (length bytes) → take at mid ++ more ++ drop (at + length more) mid ≡ old ++ record_with c flags bytes
patched_is old front wide mid bytes more c flags at fe we me ae be =
    let whole : mid ≡ front ++ (be32 0 ++ bytes) = me ∙ ap (λ (x : List ℕ). x ++ bytes) we ∙ append_assoc front (be32 0) bytes in
    let again : mid ≡ (front ++ be32 0) ++ bytes = me ∙ ap (λ (x : List ℕ). x ++ bytes) we in
    let four : length more ≡ 4 = ap length be ∙ length-be32 (length bytes) in
    let end : length (front ++ be32 0) ≡ at + length more = omega (arith, ae, four, length-append front (be32 0), length-be32 0) in
    let a : take at mid ≡ front = rw whole (take_at front (be32 0 ++ bytes) at (sym ae)) in
    let b : drop (at + length more) mid ≡ bytes = rw again (drop_at (front ++ be32 0) bytes (at + length more) end) in
    ap (λ (x : List ℕ). x ++ more ++ drop (at + length more) mid) a ∙ ap (λ (x : List ℕ). front ++ more ++ x) b
    ∙ ap (λ (x : List ℕ). front ++ x ++ bytes) be ∙ ap (λ (x : List ℕ). x ++ be32 (length bytes) ++ bytes) fe ∙ simp append_assoc
