-- The fault that the bytes of an input call for is one of bytes.
use Rattle.std.proofs.Common.{◌≡◌, ℕ, zero, suc, ◌+◌, ◌==◌, ◌||◌, Bool, true, false, cond, List, [], ◌∷◌, length, take, drop, Option, Some, None, Result, Ok, Err, refl}
use Rattle.std.specs.Prelude.{IfSome, IfErr, nat_lt, not, option_map, slice_index}
use Rattle.std.specs.Str.{bytes_eq}
use lib.Chars.{codes}
use Rattle.sf_box.specs.Boxes.{word16, word32}
use Rattle.sf_coded.specs.declared.types.CodedFault.{CodedFault}
use Rattle.sf_coded.specs.declared.types.CodedFault.TheVariants.{Magic, Version, KindCode, ConfigTooLong, Truncated, Tag, Empty, TooLong, Trailing}
use Rattle.sf_coded.specs.declared.types.CodedSample.{CodedSample}
use Rattle.sf_coded.specs.declared.fields.Header.{Header}
use Rattle.sf_coded.specs.declared.fields.Record.{Record}
use Rattle.sf_coded.specs.declared.fields.Turn.{Turn}
use Rattle.sf_coded.specs.declared.fields.Turn.TheVariants.{End, Next}
use Rattle.sf_coded.specs.CodedFile.{Records, behind_header, coded, header_in, header_fields, record_fields, record_in, records, records_at, turned}
use Rattle.sf_gather.specs.declared.given.Given.{Given}
use Rattle.sf_gather.specs.declared.given.LastSample.{LastSample}
use Rattle.sf_gather.specs.Accepting.{kept_of, stored_of}
use Rattle.sf_record.specs.declared.faults.InputFault.TheVariants.{Coded}
use Rattle.sf_record.specs.declared.faults.TrackFault.{TrackFault}
use Rattle.sf_record.specs.Input.{IsOfBytes, Taken, coded_fault, fault_at, input_of, taken, unless}
use Rattle.sf_record.proofs.Inputs.{fault_of_bytes}

-- an end of records is whole or lies in the bytes
abbrev EndOfBytes : Option CodedFault → Type 0
EndOfBytes end = IfSome end (λ f. IsOfBytes (Coded f))

abbrev OfErr : {A : Type 0} → Result A CodedFault → Type 0
OfErr {A} r = IfErr r (λ f. IsOfBytes (Coded f))

err_if : {A : Type 0} (b : Bool) (x y : Result A CodedFault) → OfErr x → OfErr y → OfErr (cond b x y)
err_if {A} true x y of_x of_y = of_x
err_if {A} false x y of_x of_y = of_y

record_of_bytes : (at room : ℕ) (first : List ℕ) → OfErr (record_in at room first)
record_of_bytes at room first =
    let long : Result Turn CodedFault = cond (nat_lt room (22 + word32 (drop 18 first))) (Err (Truncated (at + room))) (Ok (Next (record_fields first))) in
    let some : Result Turn CodedFault = cond (nat_lt 16777216 (word32 (drop 18 first))) (Err (TooLong at (word32 (drop 18 first)))) long in
    let full : Result Turn CodedFault = cond (word32 (drop 18 first) == 0) (Err (Empty at)) some in
    let whole : Result Turn CodedFault = cond (nat_lt room 22) (Err (Truncated (at + room))) full in
    let known : Result Turn CodedFault = cond (not (slice_index first 0 == 1)) (Err (Tag at (slice_index first 0))) whole in
    let last : Result Turn CodedFault = cond (room == 1) (Ok End) (Err (Trailing (at + 1))) in
    err_if (room == 0) (Err (Truncated at)) (cond (slice_index first 0 == 0) last known) tt
    (err_if (slice_index first 0 == 0) last known (err_if (room == 1) (Ok End) (Err (Trailing (at + 1))) tt tt)
    (err_if (not (slice_index first 0 == 1)) (Err (Tag at (slice_index first 0))) whole tt
    (err_if (nat_lt room 22) (Err (Truncated (at + room))) full tt
    (err_if (word32 (drop 18 first) == 0) (Err (Empty at)) some tt
    (err_if (nat_lt 16777216 (word32 (drop 18 first))) (Err (TooLong at (word32 (drop 18 first)))) long tt
    (err_if (nat_lt room (22 + word32 (drop 18 first))) (Err (Truncated (at + room))) (Ok (Next (record_fields first))) tt tt))))))

turned_of_bytes : (at : ℕ) (bytes : List ℕ) (r : Result Turn CodedFault) (behind : Record → Records) → OfErr r → ((x : Record) → EndOfBytes (behind x).end) → EndOfBytes (turned at bytes r behind).end
turned_of_bytes at bytes (Ok End) behind of more = tt
turned_of_bytes at bytes (Ok (Next r)) behind of more = more r
turned_of_bytes at bytes (Err f) behind of more = of

records_of_bytes : (n at : ℕ) (bytes : List ℕ) → EndOfBytes (records n at bytes).end
unfolding records
records_of_bytes zero at bytes = tt
records_of_bytes (suc n) at bytes =
    turned_of_bytes at bytes (record_in at (length bytes) bytes) (λ r. records n (at + (22 + r.len)) (drop (22 + r.len) bytes)) (record_of_bytes at (length bytes) bytes)
    (λ r. records_of_bytes n (at + (22 + r.len)) (drop (22 + r.len) bytes))

header_of_bytes : (len : ℕ) (first : List ℕ) → OfErr (header_in len first)
header_of_bytes len first =
    let there : Result Header CodedFault = cond (nat_lt len (22 + word32 (drop 18 first))) (Err (Truncated len)) (Ok (header_fields first)) in
    let config : Result Header CodedFault = cond (nat_lt 65536 (word32 (drop 18 first))) (Err (ConfigTooLong (word32 (drop 18 first)))) there in
    let whole : Result Header CodedFault = cond (nat_lt len 22) (Err (Truncated len)) config in
    let kind : Result Header CodedFault = cond (not (word16 (drop 6 first) == 1 || word16 (drop 6 first) == 2)) (Err (KindCode (word16 (drop 6 first)))) whole in
    let eight : Result Header CodedFault = cond (nat_lt len 8) (Err (Truncated len)) kind in
    let version : Result Header CodedFault = cond (not (word16 (drop 4 first) == 1)) (Err (Version (word16 (drop 4 first)))) eight in
    let six : Result Header CodedFault = cond (nat_lt len 6) (Err (Truncated len)) version in
    let magic : Result Header CodedFault = cond (not (bytes_eq (take 4 first) (codes "SFCS"))) (Err Magic) six in
    err_if (nat_lt len 4) (Err (Truncated len)) magic tt
    (err_if (not (bytes_eq (take 4 first) (codes "SFCS"))) (Err Magic) six tt
    (err_if (nat_lt len 6) (Err (Truncated len)) version tt
    (err_if (not (word16 (drop 4 first) == 1)) (Err (Version (word16 (drop 4 first)))) eight tt
    (err_if (nat_lt len 8) (Err (Truncated len)) kind tt
    (err_if (not (word16 (drop 6 first) == 1 || word16 (drop 6 first) == 2)) (Err (KindCode (word16 (drop 6 first)))) whole tt
    (err_if (nat_lt len 22) (Err (Truncated len)) config tt
    (err_if (nat_lt 65536 (word32 (drop 18 first))) (Err (ConfigTooLong (word32 (drop 18 first)))) there tt
    (err_if (nat_lt len (22 + word32 (drop 18 first))) (Err (Truncated len)) (Ok (header_fields first)) tt tt))))))))

after_header : (bytes : List ℕ) (r : Result Header CodedFault) → OfErr r → EndOfBytes (behind_header bytes r).end
unfolding records_at
after_header bytes (Ok h) of = records_of_bytes (suc (length (drop (22 + h.config_len) bytes))) (22 + h.config_len) (drop (22 + h.config_len) bytes)
after_header bytes (Err f) of = of

coded_of_bytes : (bytes : List ℕ) → EndOfBytes (coded bytes).end
unfolding coded
coded_of_bytes bytes = after_header bytes (header_in (length bytes) bytes) (header_of_bytes (length bytes) bytes)

abbrev TakenOfBytes : Taken → Type 0
TakenOfBytes t = IfSome t.fault (λ f. IsOfBytes f.why)

end_taken : (end : Option CodedFault) → EndOfBytes end → IfSome (option_map coded_fault end) (λ f. IsOfBytes f.why)
end_taken None of = tt
end_taken (Some f) of = of

unless_taken : (given : Given) (last : Option LastSample) (found : CodedSample) (rule : Option TrackFault) (behind : Taken) → fault_at given last found ≡ rule → TakenOfBytes behind
    → TakenOfBytes (unless rule (stored_of given found.sample) behind)
unless_taken given last found None behind is of = of
unless_taken given last found (Some fault) behind is of = fault_of_bytes given last found fault is

taken_of_bytes : (given : Given) (last : Option LastSample) (samples : List CodedSample) (end : Option CodedFault) → EndOfBytes end → TakenOfBytes (taken given last samples end)
taken_of_bytes given last [] end of = end_taken end of
taken_of_bytes given last (found ∷ samples) end of =
    unless_taken given last found (fault_at given last found) (taken given (Some (kept_of (stored_of given found.sample))) samples end) refl
    (taken_of_bytes given (Some (kept_of (stored_of given found.sample))) samples end of)

pub input_of_bytes : (given : Given) (bytes : List ℕ) → IfSome (input_of given bytes).fault (λ f. IsOfBytes f.why)
input_of_bytes given bytes = taken_of_bytes given None (coded bytes).samples (coded bytes).end (coded_of_bytes bytes)
