-- How an input that is read goes on behind a sample.
use Rattle.std.proofs.Common.{◌≡◌, ℕ, List, [], ◌∷◌, ◌++◌, Option, Some, None, inl, inr, refl, sym, ap, subst, ◌∙◌, append_assoc, drop, option_map}
use Rattle.std.specs.Option.{option_to_list}
use Rattle.std.proofs.lemmas.List.{append-nil}
use Rattle.sf_tick.specs.declared.types.Setup.{Setup}
use Rattle.sf_tick.specs.declared.types.Stored.{Stored}
use Rattle.sf_coded.specs.declared.types.CodedSample.{CodedSample}
use Rattle.sf_coded.specs.CodedFile.{CodedFile, Records, records_at, coded}
use Rattle.sf_gather.specs.declared.given.Given.{Given}
use Rattle.sf_gather.specs.declared.given.LastSample.{LastSample}
use Rattle.sf_gather.specs.declared.accepting.SampleFault.{SampleFault}
use Rattle.sf_gather.specs.Accepting.{IsOfSample, kept_of, last_from, last_of, stored_of, refusal}
use Rattle.sf_gather.proofs.GatherLaws.{refusal_tells}
use Rattle.std.specs.Option.{IfSome}
use Rattle.sf_gather.specs.Chunks.{closed}
use Rattle.sf_gather.specs.Gathered.{Gathered, Stands}
use Rattle.sf_gather.specs.Proper.{Proper}
use Rattle.sf_record.specs.declared.faults.TrackFault.{TrackFault}
use Rattle.sf_record.specs.declared.advance.Advance.{Advance}
use Rattle.sf_record.specs.declared.advance.Advance.TheVariants.{Accepted, Ended, NoMemory}
use Rattle.sf_record.specs.Input.{fault_at, sample_fault, IsOfBytes, taken, ended, with_front, unless, Taken, OfInput, IsFront}
use Rattle.sf_record.specs.Reading.{EndsBy, Reads}
use Rattle.sf_record.specs.inner.Advance.{AdvancesTo, PutIn}

-- the last of a list with one more sample
last_more : (before : Option LastSample) (samples : List Stored) (next : Stored) → last_from before (samples ++ next ∷ []) ≡ Some (kept_of next)
last_more before [] next = refl
last_more before (sample ∷ samples) next = last_more (Some (kept_of sample)) samples next

front_more : (front : List Stored) (next : Stored) (t : Taken) → with_front front (with_front (next ∷ []) t) ≡ with_front (front ++ next ∷ []) t
front_more front next t = ap (λ (ss : List Stored). record { samples = ss; fault = t.fault }) (sym (append_assoc front (next ∷ []) t.samples))

-- an input is read behind one more sample, which is accepted
reads_more : (contents : Option (List ℕ)) (given : Given) (accepted : List Stored) (setup : Setup) (place : ℕ) (found : CodedSample)
    → fault_at given (last_of accepted) found ≡ None → Reads contents given accepted setup place (Some found)
    → Reads contents given (accepted ++ stored_of given found.sample ∷ []) setup place None
reads_more contents given accepted setup place found right r =
    let next = stored_of given found.sample in
    record {
      samples = r.samples ++ found ∷ [];
      stands = rw (append-nil (r.samples ++ found ∷ [])) r.stands;
      says = λ more end.
          ap (λ (ss : List CodedSample). taken given None ss end) (append_assoc r.samples (found ∷ []) more)
          ∙ r.says (found ∷ more) end
          ∙ ap (λ (f : Option TrackFault). with_front accepted (unless f next (taken given (Some (kept_of next)) more end))) right
          ∙ front_more accepted next (taken given (Some (kept_of next)) more end)
          ∙ ap (λ (last : Option LastSample). with_front (accepted ++ next ∷ []) (taken given last more end)) (sym (last_more None accepted next));
    }

-- what an input says that is read so far, with what is held back and what follows
says_rest : (file : List ℕ) (given : Given) (accepted : List Stored) (setup : Setup) (place : ℕ) (held : Option CodedSample) (r : Reads (Some file) given accepted setup place held) (rest : Records)
    → coded file ≡ record { setup = Some setup; samples = (r.samples ++ option_to_list held) ++ rest.samples; end = rest.end }
    → taken given None (coded file).samples (coded file).end ≡ with_front accepted (taken given (last_of accepted) (option_to_list held ++ rest.samples) rest.end)
says_rest file given accepted setup place held r rest e =
    ap (λ (c : CodedFile). taken given None c.samples c.end) e
    ∙ ap (λ (ss : List CodedSample). taken given None ss rest.end) (append_assoc r.samples (option_to_list held) rest.samples)
    ∙ r.says (option_to_list held ++ rest.samples) rest.end

mapped_of_bytes : (at : ℕ) (rule : Option SampleFault) (fault : TrackFault) → IfSome rule IsOfSample → option_map (sample_fault at) rule ≡ Some fault → IsOfBytes fault.why
mapped_of_bytes at None fault of e = absurd (cc e)
mapped_of_bytes at (Some first) fault of e =
    let is : sample_fault at first ≡ fault = cc e in
    let P : TrackFault → Type 0 = λ f. IsOfBytes f.why in
    subst P is of

-- a sample is refused by what its bytes say
pub fault_of_bytes : (given : Given) (last : Option LastSample) (found : CodedSample) (fault : TrackFault) → fault_at given last found ≡ Some fault → IsOfBytes fault.why
fault_of_bytes given last found fault e = mapped_of_bytes found.at (refusal given last found.sample) fault (refusal_tells given last found.sample) e

says_refused : (contents : Option (List ℕ)) (given : Given) (accepted : List Stored) (setup : Setup) (place : ℕ) (found : CodedSample) (fault : TrackFault)
    → fault_at given (last_of accepted) found ≡ Some fault → Reads contents given accepted setup place (Some found)
    → OfInput contents given (λ t. t ≡ with_front accepted (ended (Some fault)))
says_refused None given accepted setup place found fault refused r = tt
says_refused (Some file) given accepted setup place found fault refused r =
    let rest = records_at place (drop place file) in
    let next = stored_of given found.sample in
    says_rest file given accepted setup place (Some found) r rest r.stands
    ∙ ap (λ (f : Option TrackFault). with_front accepted (unless f next (taken given (Some (kept_of next)) rest.samples rest.end))) refused

-- an input whose next sample is refused
reads_refused : (contents : Option (List ℕ)) (given : Given) (accepted : List Stored) (setup : Setup) (place : ℕ) (found : CodedSample) (fault : TrackFault)
    → fault_at given (last_of accepted) found ≡ Some fault → Reads contents given accepted setup place (Some found)
    → EndsBy contents given accepted (Some fault)
reads_refused contents given accepted setup place found fault refused r =
    inr (fault_of_bytes given (last_of accepted) found fault refused, says_refused contents given accepted setup place found fault refused r)

-- the accepted samples are the first that an input says
pub reads_front : (contents : Option (List ℕ)) (given : Given) (accepted : List Stored) (setup : Setup) (place : ℕ) (held : Option CodedSample)
    → Reads contents given accepted setup place held → OfInput contents given (IsFront accepted)
reads_front None given accepted setup place held r = tt
reads_front (Some file) given accepted setup place held r =
    let rest = records_at place (drop place file) in (
      (taken given (last_of accepted) (option_to_list held ++ rest.samples) rest.end).samples,
      ap (λ (t : Taken). t.samples) (says_rest file given accepted setup place held r rest r.stands),
    )

front_of : (accepted : List Stored) (fault : Option TrackFault) (t : Taken) → t ≡ with_front accepted (ended fault) → IsFront accepted t
front_of accepted fault t e = ([], ap (λ (x : Taken). x.samples) e)

-- the same behind the last chunk
pub ends_front : (contents : Option (List ℕ)) (given : Given) (accepted : List Stored) (fault : Option TrackFault) → EndsBy contents given accepted fault → OfInput contents given (IsFront accepted)
ends_front None given accepted fault ends = tt
ends_front (Some file) given accepted None ends = front_of accepted None _ ends
ends_front (Some file) given accepted (Some fault) (inl read) = read.1
ends_front (Some file) given accepted (Some fault) (inr exact) = front_of accepted (Some fault) _ exact.1

-- a step with a sample that was read
pub goes_next : (contents : Option (List ℕ)) (accepted : List Stored) (old new : Gathered) (found : CodedSample) (setup : Setup) (place : ℕ) (held : Option CodedSample) (advance : Advance)
    → PutIn old found new held advance → Stands accepted old → Reads contents old.given accepted setup place (Some found)
    → AdvancesTo contents old.given accepted new setup place held advance
goes_next contents accepted old new found setup place held (Accepted chunk) p stands reads =
    let next = stored_of old.given found.sample in
    let last : old.last ≡ last_of accepted = stands.last in
    let right : fault_at old.given (last_of accepted) found ≡ None = rw last at p.1.right in
    let P : Given → Type 0 = λ given. Proper given.track given.scale (closed given (accepted ++ next ∷ [])) in
    record {
      sample = next;
      stands = p.1.stands accepted stands;
      reads = rw p.0 (reads_more contents old.given accepted setup place found right reads);
      grows = p.1.grows accepted stands;
      proper = subst P p.1.given (p.1.proper (accepted ++ next ∷ []) (p.1.stands accepted stands));
    }
goes_next contents accepted old new found setup place held (Ended None) p stands reads = absurd (cc (p.3))
goes_next contents accepted old new found setup place held (Ended (Some fault)) p stands reads =
    let last : old.last ≡ last_of accepted = stands.last in
    let refused : fault_at old.given (last_of accepted) found ≡ Some fault = rw last at (sym p.2) in
    (rw p.1 stands, reads_refused contents old.given accepted setup place found fault refused reads, reads_front contents old.given accepted setup place (Some found) reads)
goes_next contents accepted old new found setup place held NoMemory p stands reads = (rw p.1 stands, rw p.0 reads)
