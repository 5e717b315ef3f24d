-- The records of a file, one after the other.
use Rattle.std.proofs.Common.{◌≡◌, ℕ, zero, suc, ◌+◌, ◌≤◌, ◌<◌, Bool, true, false, cond, not, ltb, ◌==◌, ◌⊎◌, inl, inr, List, [], ◌∷◌, ◌++◌, length, take, drop, Option, Some, None, Result, Ok, Err, refl, sym, subst, ap, ◌∙◌, append_assoc, arith}
use Rattle.std.specs.List.{slice_index}
use Rattle.std.proofs.lemmas.Bool.{ltb-false}
use Rattle.std.proofs.lemmas.List.{append-nil, length-drop, length-take, drop-drop}
use Rattle.sf_box.specs.Boxes.{word32}
use Rattle.sf_tick.specs.declared.types.Setup.{Setup}
use Rattle.sf_coded.specs.declared.types.CodedFault.{CodedFault}
use Rattle.sf_coded.specs.declared.types.CodedFault.TheVariants.{ReadFault, NoMemory}
use Rattle.sf_coded.specs.declared.types.CodedSample.{CodedSample}
use Rattle.sf_coded.specs.declared.fields.Record.{Record}
use Rattle.sf_coded.specs.declared.fields.Turn.{Turn}
use Rattle.sf_coded.specs.declared.fields.Turn.TheVariants.{End, Next}
use Rattle.sf_coded.specs.CodedFile.{record_in, record_fields, sample_of, Records, ended, with_sample, turned, records, records_at, file_of, coded}
use Rattle.sf_coded.specs.inner.Window.{AreFrom}
use Rattle.sf_coded.specs.Progress.{NextTold, Moves, Stands, Follows, RefusesBy}
use Rattle.sf_coded.specs.inner.Steps.{SetupTold, TurnTold}

-- the two ways of a choice
chosen : {A : Type 0} (b : Bool) (x y z : A) → cond b x y ≡ z → ((b ≡ true) × (x ≡ z)) ⊎ ((b ≡ false) × (y ≡ z))
chosen true x y z e = inl (refl, e)
chosen false x y z e = inr (refl, e)

-- a record that was found lies within the room
record_takes : (at room : ℕ) (first : List ℕ) (r : Record) → record_in at room first ≡ Ok (Next r) → 22 + r.len ≤ room
record_takes at room first r e =
    elim (chosen (room == 0) _ _ (Ok (Next r)) e) [
      | inl p ↦ absurd (cc (p.1))
      | inr p ↦
          elim (chosen (slice_index first 0 == 0) _ _ (Ok (Next r)) p.1) [
            | inl q ↦
                elim (chosen (room == 1) _ _ (Ok (Next r)) q.1) [
                  | inl s ↦ absurd (cc (s.1))
                  | inr s ↦ absurd (cc (s.1))
                ]
            | inr q ↦
                elim (chosen (not (slice_index first 0 == 1)) _ _ (Ok (Next r)) q.1) [
                  | inl s ↦ absurd (cc (s.1))
                  | inr s ↦
                      elim (chosen (ltb room 22) _ _ (Ok (Next r)) s.1) [
                        | inl t ↦ absurd (cc (t.1))
                        | inr t ↦
                            elim (chosen (word32 (drop 18 first) == 0) _ _ (Ok (Next r)) t.1) [
                              | inl u ↦ absurd (cc (u.1))
                              | inr u ↦
                                  elim (chosen (ltb 16777216 (word32 (drop 18 first))) _ _ (Ok (Next r)) u.1) [
                                    | inl v ↦ absurd (cc (v.1))
                                    | inr v ↦
                                        elim (chosen (ltb room (22 + word32 (drop 18 first))) _ _ (Ok (Next r)) v.1) [
                                          | inl w ↦ absurd (cc (w.1))
                                          | inr w ↦
                                              let is : record_fields first ≡ r = cc (w.1) in
                                              let len : word32 (drop 18 first) ≡ r.len = ap (λ (x : Record). x.len) is in
                                              omega (arith, len, ltb-false _ _ w.0)
                                        ]
                                  ]
                            ]
                      ]
                ]
          ]
    ]

-- two readings agree after a record where they agree on shorter rests
same_behind : (at : ℕ) (bytes : List ℕ) (t : Result Turn CodedFault) (f g : Record → Records) → ((r : Record) → t ≡ Ok (Next r) → f r ≡ g r)
    → turned at bytes t f ≡ turned at bytes t g
same_behind at bytes (Ok End) f g same = refl
same_behind at bytes (Ok (Next r)) f g same = ap (with_sample (sample_of at bytes r)) (same r refl)
same_behind at bytes (Err e) f g same = refl

-- more steps than there are bytes are enough
records_enough : (n m at : ℕ) (bytes : List ℕ) → length bytes < n → length bytes < m → records n at bytes ≡ records m at bytes
unfolding records
records_enough zero m at bytes p q = absurd (omega arith)
records_enough (suc n) zero at bytes p q = absurd (omega arith)
records_enough (suc n) (suc m) at bytes p q =
    same_behind at bytes (record_in at (length bytes) bytes) (λ r. records n (at + (22 + r.len)) (drop (22 + r.len) bytes)) (λ r. records m (at + (22 + r.len)) (drop (22 + r.len) bytes))
    (λ r e.
    let le = record_takes at (length bytes) bytes r e in
    records_enough n m (at + (22 + r.len)) (drop (22 + r.len) bytes) (omega (arith, le, length-drop (22 + r.len) bytes)) (omega (arith, le, length-drop (22 + r.len) bytes)))

-- one step along the records
pub records_step : (at : ℕ) (bytes : List ℕ)
    → records_at at bytes ≡ turned at bytes (record_in at (length bytes) bytes) (λ r. records_at (at + (22 + r.len)) (drop (22 + r.len) bytes))
unfolding records_at records
records_step at bytes =
    same_behind at bytes (record_in at (length bytes) bytes) (λ r. records (length bytes) (at + (22 + r.len)) (drop (22 + r.len) bytes))
    (λ r. records (suc (length (drop (22 + r.len) bytes))) (at + (22 + r.len)) (drop (22 + r.len) bytes))
    (λ r e.
    let le = record_takes at (length bytes) bytes r e in
    records_enough (length bytes) (suc (length (drop (22 + r.len) bytes))) (at + (22 + r.len)) (drop (22 + r.len) bytes) (omega (arith, le, length-drop (22 + r.len) bytes)) (omega arith))

-- the header that was read stands in front of the records
pub begins : (contents : Option (List ℕ)) (setup : Setup) → SetupTold contents (Ok setup) → Stands contents setup [] (22 + length setup.config)
unfolding coded
begins None setup t = tt
begins (Some bytes) setup t = rw (t.1, t.3) (ap (λ (s : Setup). file_of s [] (records_at (22 + t.0.config_len) (drop (22 + t.0.config_len) bytes))) (sym (t.2)))

pub refuses : (contents : Option (List ℕ)) (f : CodedFault) → SetupTold contents (Err f) → RefusesBy contents f
unfolding coded
refuses None ReadFault e = tt
refuses None NoMemory e = tt
refuses None _ e = tt
refuses (Some bytes) ReadFault e = tt
refuses (Some bytes) NoMemory e = tt
refuses (Some bytes) _ e = rw e refl

-- a sample after those so far
samples_more : (setup : Setup) (samples : List CodedSample) (s : CodedSample) (rs : Records) → file_of setup samples (with_sample s rs) ≡ file_of setup (samples ++ s ∷ []) rs
samples_more setup samples s rs = ap (λ (xs : List CodedSample). record { setup = Some setup; samples = xs; end = rs.end }) (sym (append_assoc samples (s ∷ []) rs.samples))

samples_end : (setup : Setup) (samples : List CodedSample) (end : Option CodedFault) → file_of setup samples (ended end) ≡ record { setup = Some setup; samples = samples; end = end }
samples_end setup samples end = ap (λ (xs : List CodedSample). record { setup = Some setup; samples = xs; end = end }) (append-nil samples)

stands_next : (bytes : List ℕ) (setup : Setup) (samples : List CodedSample) (place next : ℕ) (s : CodedSample) (r : Record)
    → record_in place (length (drop place bytes)) (drop place bytes) ≡ Ok (Next r) → s ≡ sample_of place (drop place bytes) r → next ≡ place + (22 + length s.sample.bytes)
    → coded bytes ≡ file_of setup samples (records_at place (drop place bytes))
    → coded bytes ≡ file_of setup (samples ++ s ∷ []) (records_at next (drop next bytes))
stands_next bytes setup samples place next s r found is behind whole =
    let rest : List ℕ = drop place bytes in
    let len : length s.sample.bytes ≡ r.len = ap (λ (x : CodedSample). length x.sample.bytes) is ∙ omega (arith, length-take r.len (drop 22 rest), length-drop 22 rest, record_takes place (length rest) rest r found) in
    let there : place + (22 + r.len) ≡ next = omega (arith, len, behind) in
    let after : drop (22 + r.len) rest ≡ drop next bytes = drop-drop (22 + r.len) place bytes ∙ ap (λ (n : ℕ). drop n bytes) (omega (arith, there)) in
    whole
    ∙ ap (file_of setup samples) (records_step place rest ∙ ap (λ (t : Result Turn CodedFault). turned place rest t (λ q. records_at (place + (22 + q.len)) (drop (22 + q.len) rest))) found)
    ∙ ap (λ (x : CodedSample). file_of setup samples (with_sample x (records_at (place + (22 + r.len)) (drop (22 + r.len) rest)))) (sym is)
    ∙ samples_more setup samples s (records_at (place + (22 + r.len)) (drop (22 + r.len) rest))
    ∙ ap (λ (n : ℕ). file_of setup (samples ++ s ∷ []) (records_at n (drop (22 + r.len) rest))) there
    ∙ ap (λ (xs : List ℕ). file_of setup (samples ++ s ∷ []) (records_at next xs)) after

stands_end : (bytes : List ℕ) (setup : Setup) (samples : List CodedSample) (place : ℕ) (t : Result Turn CodedFault) (end : Option CodedFault)
    → record_in place (length (drop place bytes)) (drop place bytes) ≡ t
    → turned place (drop place bytes) t (λ q. records_at (place + (22 + q.len)) (drop (22 + q.len) (drop place bytes))) ≡ ended end
    → coded bytes ≡ file_of setup samples (records_at place (drop place bytes))
    → coded bytes ≡ record { setup = Some setup; samples = samples; end = end }
stands_end bytes setup samples place t end found is whole =
    let rest : List ℕ = drop place bytes in
    whole
    ∙ ap (file_of setup samples) (records_step place rest ∙ ap (λ (u : Result Turn CodedFault). turned place rest u (λ q. records_at (place + (22 + q.len)) (drop (22 + q.len) rest))) found ∙ is)
    ∙ samples_end setup samples end

-- what an answer makes of the samples so far
pub follows : (contents : Option (List ℕ)) (setup : Setup) (samples : List CodedSample) (place size next : ℕ) (result : Result (Option CodedSample) CodedFault)
    → NextTold contents place result → Moves place size next result → Stands contents setup samples place → Follows contents setup samples next result
follows None setup samples place size next (Ok (Some s)) told moves whole = tt
follows None setup samples place size next (Ok None) told moves whole = tt
follows None setup samples place size next (Err ReadFault) told moves whole = tt
follows None setup samples place size next (Err NoMemory) told moves whole = tt
follows None setup samples place size next (Err _) told moves whole = tt
follows (Some bytes) setup samples place size next (Ok (Some s)) told moves whole = stands_next bytes setup samples place next s told.0 told.1 told.2 moves.behind whole
follows (Some bytes) setup samples place size next (Ok None) told moves whole = stands_end bytes setup samples place (Ok End) None told refl whole
follows (Some bytes) setup samples place size next (Err ReadFault) told moves whole = rw moves whole
follows (Some bytes) setup samples place size next (Err NoMemory) told moves whole = rw moves whole
follows (Some bytes) setup samples place size next (Err f) told moves whole = stands_end bytes setup samples place (Err f) (Some f) told refl whole

-- the sample of a record whose payload was read
pub sample_told : (contents later : Option (List ℕ)) (at : ℕ) (r : Record) (bytes : List ℕ) → TurnTold contents at (Ok (Next r)) → AreFrom later (at + 22) bytes → length bytes ≡ r.len
    → later ≡ contents → NextTold contents at (Ok (Some (record { at = at; sample = record { dts_us = r.dts_us; pts_us = r.pts_us; sync = r.sync; bytes = bytes } })))
sample_told None later at r bytes told from len same = tt
sample_told (Some all) later at r bytes told from len same =
    let P : Option (List ℕ) → Type 0 = λ c. AreFrom c (at + 22) bytes in
    let f : bytes ≡ take (length bytes) (drop (at + 22) all) = subst P same from in
    let payload : bytes ≡ take r.len (drop 22 (drop at all)) = f ∙ ap (λ (n : ℕ). take n (drop (at + 22) all)) len ∙ ap (take r.len) (sym (drop-drop 22 at all)) in
    (r, told, ap (λ (b : List ℕ). record { at = at; sample = record { dts_us = r.dts_us; pts_us = r.pts_us; sync = r.sync; bytes = b } }) payload)

-- the same for the source and the setup as they are after the answer
pub follows_on : (contents later : Option (List ℕ)) (setup same : Setup) (samples : List CodedSample) (place size next : ℕ) (result : Result (Option CodedSample) CodedFault)
    → NextTold contents place result → Moves place size next result → later ≡ contents → same ≡ setup → Stands contents setup samples place
    → Follows later same samples next result
follows_on contents later setup same samples place size next result told moves c s whole = rw (c, s) (follows contents setup samples place size next result told moves whole)
