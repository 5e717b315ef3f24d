-- What was written of a readout, and what waits.
use Rattle.std.proofs.Common.{◌≡◌, ℕ, ◌+◌, ◌-◌, ◌^◌, min, Bool, true, false, List, [], ◌++◌, length, take, drop, Option, Some, None, Result, Ok, Err, refl, sym, ap, subst, ◌∙◌, arith, append_assoc, append-nil, length-append, ◌⊎◌, inl, inr}
use Rattle.std.proofs.lemmas.List.{take-append-drop}
use Rattle.std.specs.Result.{IsErrAnd}
use Rattle.sf_world.specs.Contents.{grown}
use Rattle.sf_world.specs.Views.{Gains, GainsPart, SinkView}
use Rattle.sf_extract.specs.Readout.{Readout, before, ended_by, read_out}
use Rattle.sf_extract.specs.Runs.{Running, rest_of}
use Rattle.sf_extract.specs.declared.plan.Command.{Command}
use Rattle.sf_extract.specs.declared.types.BadSample.{BadSample}
use Rattle.sf_reader.specs.Dumps.{told_length}
use Rattle.sf_reader.specs.inner.Reading.{Dumped, GainsBegun, ReadOn, Turned, Waits}
use Rattle.sf_reader.specs.declared.dump.ReaderFault.{ReaderFault}
use Rattle.sf_reader.specs.declared.dump.ReaderFault.TheVariants.{Bad, ReadFault, WriteFault, NoMemory}

grown_more : (content : Option (List ℕ)) (a b : List ℕ) → grown (grown content a) b ≡ grown content (a ++ b)
grown_more None a b = refl
grown_more (Some bytes) a b = ap (λ (bs : List ℕ). Some bs) (append_assoc bytes a b)

grown_empty : (content : Option (List ℕ)) → grown content [] ≡ content
grown_empty None = refl
grown_empty (Some bytes) = ap (λ (bs : List ℕ). Some bs) (append-nil bytes)

before_more : (a b : List ℕ) (r : Readout) → before (a ++ b) r ≡ before a (before b r)
before_more a b r = ap (λ (d : List ℕ). record { dump = d; refused = r.refused }) (append_assoc a b r.dump)

-- nothing was written, and nothing waits
pub waits_first : (r : Readout) (begun : SinkView) (out : List ℕ) → out ≡ [] → Waits r r begun out 0 begun
waits_first r begun out e = record { done = []; gained = sym (grown_empty begun.content); count = refl; whole = ap (λ (x : List ℕ). before x r) e }

-- a run went on
pub waits_on : (r s t : Readout) (begun : SinkView) (out new : List ℕ) (written : ℕ) (now : SinkView) → Waits r s begun out written now → before new t ≡ before out s → Waits r t begun new written now
waits_on r s t begun out new written now w e = record {
  done = w.done;
  gained = w.gained;
  count = w.count;
  whole = before_more w.done new t ∙ ap (before w.done) e ∙ sym (before_more w.done out s) ∙ w.whole;
}

-- what waited was written
pub waits_written : (r s : Readout) (begun : SinkView) (out new : List ℕ) (written more : ℕ) (now after : SinkView) → Waits r s begun out written now → Gains out now after
    → more ≡ min (written + length out) (2 ^ 64 - 1) → new ≡ [] → Waits r s begun new more after
waits_written r s begun out new written more now after w g n e = record {
  done = w.done ++ out;
  gained = g.content ∙ ap (λ (c : Option (List ℕ)). grown c out) w.gained ∙ grown_more begun.content w.done out;
  count = omega (arith, n, w.count, length-append w.done out);
  whole = ap (λ (x : List ℕ). before ((w.done ++ out) ++ x) s) e ∙ ap (λ (x : List ℕ). before x s) (append-nil (w.done ++ out)) ∙ w.whole;
}

-- all was written
written_all : (r : Readout) (o : Option BadSample) (begun : SinkView) (written : ℕ) (now : SinkView) → Waits r (record { dump = []; refused = o }) begun [] written now
    → (r.refused ≡ o) × (written ≡ told_length r.dump) × (now.content ≡ grown begun.content r.dump)
written_all r o begun written now w =
    let dump : r.dump ≡ w.done = sym (ap (λ (x : Readout). x.dump) w.whole) ∙ append-nil (w.done ++ []) ∙ append-nil w.done in (
      sym (ap (λ (x : Readout). x.refused) w.whole),
      w.count ∙ ap told_length (sym dump),
      w.gained ∙ ap (grown begun.content) (sym dump),
    )

-- a part of what waits was written
pub written_part : (r s : Readout) (begun : SinkView) (out : List ℕ) (written : ℕ) (now after : SinkView) → Waits r s begun out written now → GainsPart out now after → GainsBegun r begun after
written_part r s begun out written now after w g =
    let cut : out ≡ take g.count out ++ drop g.count out = sym (take-append-drop g.count out) in
    record {
      dump = w.done ++ take g.count out;
      begins = record {
        rest = drop g.count out ++ s.dump;
        whole = sym (ap (λ (x : Readout). x.dump) w.whole) ∙ ap (λ (x : List ℕ). (w.done ++ x) ++ s.dump) cut ∙ simp append_assoc;
      };
      gained = g.content ∙ ap (λ (c : Option (List ℕ)). grown c (take g.count out)) w.gained ∙ grown_more begun.content w.done (take g.count out);
    }

written_begun : (r s : Readout) (begun : SinkView) (written : ℕ) (now : SinkView) → Waits r s begun [] written now → GainsBegun r begun now
written_begun r s begun written now w = record {
  dump = w.done;
  begins = record { rest = s.dump; whole = sym (ap (λ (x : Readout). x.dump) w.whole) ∙ ap (λ (x : List ℕ). x ++ s.dump) (append-nil w.done) };
  gained = w.gained;
}

-- a run that is over
pub written_whole : (r : Readout) (file : List ℕ) (run : Running) (begun : SinkView) (out : List ℕ) (written : ℕ) (now : SinkView) → run.left ≡ [] → out ≡ [] → Waits r (rest_of file run) begun out written now
    → Dumped r (Ok written) begun now
unfolding read_out
written_whole r file run begun out written now e f w =
    written_all r None begun written now
    (subst (λ (x : List ℕ). Waits r (record { dump = []; refused = None }) begun x written now) f
    (subst (λ (cs : List Command). Waits r (read_out file cs run.at) begun out written now) e w))

-- a run that met a fault: what it put waits
pub waits_fault : (r : Readout) (file : List ℕ) (was run : Running) (begun : SinkView) (out new : List ℕ) (written : ℕ) (now : SinkView) (fault : ReaderFault)
    → Waits r (rest_of file was) begun out written now → ReadOn file out new was run (Err fault) → (s : Readout) × Waits r s begun new written now
waits_fault r file was run begun out new written now (Bad bad) w h = (ended_by bad, waits_on r (rest_of file was) (ended_by bad) begun out new written now w h)
waits_fault r file was run begun out new written now ReadFault w h = (rest_of file run, waits_on r (rest_of file was) (rest_of file run) begun out new written now w h)
waits_fault r file was run begun out new written now WriteFault w h = absurd h
waits_fault r file was run begun out new written now NoMemory w h = (rest_of file run, waits_on r (rest_of file was) (rest_of file run) begun out new written now w h)

-- and was written
pub written_fault : (r : Readout) (file : List ℕ) (was run : Running) (begun : SinkView) (out new : List ℕ) (written more : ℕ) (now after : SinkView) (fault : ReaderFault)
    → Waits r (rest_of file was) begun out written now → ReadOn file out new was run (Err fault) → Gains new now after → more ≡ min (written + length new) (2 ^ 64 - 1) → Dumped r (Err fault) begun after
written_fault r file was run begun out new written more now after (Bad bad) w h g n =
    let a = waits_written r (ended_by bad) begun new [] written more now after (waits_on r (rest_of file was) (ended_by bad) begun out new written now w h) g n refl in
    let all = written_all r (Some bad) begun more after a in
    (all.0, all.2)
written_fault r file was run begun out new written more now after ReadFault w h g n =
    written_begun r (rest_of file run) begun more after
    (waits_written r (rest_of file run) begun new [] written more now after (waits_on r (rest_of file was) (rest_of file run) begun out new written now w h) g n refl)
written_fault r file was run begun out new written more now after WriteFault w h g n = absurd h
written_fault r file was run begun out new written more now after NoMemory w h g n =
    written_begun r (rest_of file run) begun more after
    (waits_written r (rest_of file run) begun new [] written more now after (waits_on r (rest_of file was) (rest_of file run) begun out new written now w h) g n refl)

-- a write that failed
pub failed_write : (r : Readout) (begun now : SinkView) (fault : ReaderFault) → (fault ≡ WriteFault) ⊎ (fault ≡ NoMemory) → GainsBegun r begun now → Dumped r (Err fault) begun now
failed_write r begun now fault (inl e) g = rw e g
failed_write r begun now fault (inr e) g = rw e g

-- the same by what is handed on
pub turned_failed : (file : List ℕ) (r : Readout) (begun : SinkView) (result : Result Bool ReaderFault) (x : ReaderFault) (out : List ℕ) (written : ℕ) (run : Running) (now : SinkView)
    → IsErrAnd result (λ z. z ≡ x) → (x ≡ WriteFault) ⊎ (x ≡ NoMemory) → GainsBegun r begun now → Turned file r begun result out written run now
turned_failed file r begun (Ok true) x out written run now h f g = absurd h
turned_failed file r begun (Ok false) x out written run now h f g = absurd h
turned_failed file r begun (Err y) x out written run now h f g = subst (λ (z : ReaderFault). Dumped r (Err z) begun now) (sym h) (failed_write r begun now x f g)

pub dumped_failed : (r : Readout) (begun : SinkView) (result : Result ℕ ReaderFault) (x : ReaderFault) (now : SinkView) → IsErrAnd result (λ z. z ≡ x) → Dumped r (Err x) begun now → Dumped r result begun now
dumped_failed r begun (Ok n) x now h d = absurd h
dumped_failed r begun (Err y) x now h d = subst (λ (z : ReaderFault). Dumped r (Err z) begun now) (sym h) d
