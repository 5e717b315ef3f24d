-- What stands where no command was read from the words.
use Rattle.std.proofs.Common.{◌≡◌, ℕ, List, Result, Ok, Err, refl, sym, ap, subst, ◌∙◌, inl, inr, append-nil, arith}
use Rattle.sf_world.specs.Views.{InputsView, Says}
use Rattle.sf_words.specs.Commands.{IsRead}
use Rattle.sf_words.specs.declared.command.Command.{Command}
use Rattle.sf_words.specs.declared.command.Command.TheVariants.{Record, Extract, List as Listing, Make}
use Rattle.sf_words.specs.declared.command.RecordAsked.{RecordAsked}
use Rattle.sf_words.specs.declared.faults.UsageFault.{UsageFault as WordFault}
use Rattle.sf_words.specs.declared.faults.WordsFault.{WordsFault}
use Rattle.sf_words.specs.declared.faults.WordsFault.TheVariants as reads
use Rattle.sf_app.specs.AnswerText.{line_of}
use Rattle.sf_app.specs.Ends.{Ends, usage_of}
use Rattle.sf_app.specs.ListEnds.{ListEnds, Reads}
use Rattle.sf_app.specs.Outside.{KeepInputs, Outside}
use Rattle.sf_app.specs.Plans.{plans_from}
use Rattle.sf_app.specs.RecordEnds.{Performs, RecordEnds}
use Rattle.sf_app.specs.declared.status.Status.{Status}
use Rattle.sf_app.specs.declared.status.Status.TheVariants as statuses
use Rattle.sf_app.specs.inner.Asked.{GaveNone, refused}
use Rattle.sf_app.proofs.Extracting.{ends_unread}

same_inputs : (i i' : InputsView) → i' ≡ i → KeepInputs i i'
same_inputs i i' e =
    let spare : i'.spare ≡ i.spare = ap (λ (v : InputsView). v.spare) e in
    record { holds = λ other. ap (λ (v : InputsView). v.holds other) e; spare = omega (arith, spare) }

record_none : (asked : RecordAsked) (status : Status) (b a : Outside) → status ≡ statuses.NoMemory → a.inputs ≡ b.inputs → a.shelf ≡ b.shelf → Says (line_of status) b.text a.text → RecordEnds asked status b a
record_none asked status b a e inputs shelf says =
    let quiet : Performs asked (Err statuses.NoMemory) b.inputs a.inputs b.shelf a.shelf =
    inl (
      shelf,
      0,
      record {
        few = omega arith;
        asked = ap (λ (v : InputsView). v.asked) inputs ∙ sym (append-nil b.inputs.asked);
        returned = ap (λ (v : InputsView). v.returned) inputs ∙ sym (append-nil b.inputs.returned);
        faults = ap (λ (v : InputsView). v.faults) inputs;
      },
    ) in
    record {
      ends = inr (record { performs = subst (λ (z : Status). Performs asked (Err z) b.inputs a.inputs b.shelf a.shelf) (sym e) quiet; says = says });
      inputs = same_inputs b.inputs a.inputs inputs;
      done = λ is before told. absurd (let wrong : ⊥ = cc in wrong);
      header = λ track name bytes at held none. shelf;
      complete = λ all held missed read written put. inl e;
    }

list_none : (name : List ℕ) (status : Status) (b a : Outside) → status ≡ statuses.NoMemory → a.inputs ≡ b.inputs → Says (line_of status) b.text a.text → ListEnds name status b a
list_none name status b a e inputs says =
    let quiet : Reads name (Err statuses.NoMemory) b.inputs a.inputs = inl (record { asked = ap (λ (v : InputsView). v.asked) inputs; returned = ap (λ (v : InputsView). v.returned) inputs }) in
    record {
      ends = inr (record { reads = subst (λ (z : Status). Reads name (Err z) b.inputs a.inputs) (sym e) quiet; says = says });
      inputs = same_inputs b.inputs a.inputs inputs;
      complete = λ file held missed read put. inl e;
    }

-- why no command was read
pub gave_none : (said : Result Command WordFault) (fault : WordsFault) → IsRead said (Err fault) → GaveNone said (refused fault)
gave_none said (reads.Usage fault) is = inr (fault, is, refl)
gave_none said reads.NoMemory is = inl refl

pub ends_early : (said : Result Command WordFault) (status : Status) (b a : Outside) → GaveNone said status → a.inputs ≡ b.inputs → a.shelf ≡ b.shelf → Says (line_of status) b.text a.text → Ends said status b a
ends_early (Err fault) status b a (inl e) inputs shelf says = record { answer = inr e; inputs = inputs; shelf = shelf; says = says }
ends_early (Err fault) status b a (inr x) inputs shelf says =
    let same : x.0 ≡ fault = (let told = x.1 in cc) in
    record { answer = inl (x.2 ∙ ap (λ (f : WordFault). statuses.Usage (usage_of f)) same); inputs = inputs; shelf = shelf; says = says }
ends_early (Ok (Record asked)) status b a (inl e) inputs shelf says = record_none asked status b a e inputs shelf says
ends_early (Ok (Extract asked)) status b a (inl e) inputs shelf says = ends_unread asked (plans_from 0 asked.plans) status b a (inl e) inputs shelf says
ends_early (Ok (Listing name)) status b a (inl e) inputs shelf says = (list_none name status b a e inputs says, shelf)
ends_early (Ok (Make asked)) status b a (inl e) inputs shelf says =
    record {
      ends = inr (record { answer = e; says = subst (λ (z : Status). Says (line_of z) b.text a.text) e says });
      inputs = inputs;
      shelf = shelf;
      complete = λ put. inl e;
    }
ends_early (Ok command) status b a (inr x) inputs shelf says = absurd (let told = x.1 in let wrong : ⊥ = cc in wrong)
