use Rattle.std.proofs.Common.{refl}
use Rattle.sf_record.proofs.Called.{never_rose, none_risen, said_recorded}
use Rattle.sf_record.proofs.laws.record_surely.Goals as goal

pub returns : goal.returns
returns c =
    record {
      surely = λ inputs told. c.record_serial.ensures.called inputs told (record { sources = none_risen _ _ _ (λ s. refl); shelf = never_rose 0 0 refl refl });
      said = λ inputs told done. said_recorded _ inputs done c.record_serial.ensures.ends told (record { sources = none_risen _ _ _ (λ s. refl); shelf = never_rose 0 0 refl refl });
    }
