use Rattle.sf_coded.proofs.Records.{begins, refuses}
use Rattle.sf_coded.proofs.coded.Coded.begin.Goals as goal

pub returns-in-Ok-read_setup-clause-read : goal.returns-in-Ok-read_setup-clause-read
returns-in-Ok-read_setup-clause-read g c =
    let setup = c.in-Ok-read_setup.setup in
    rw (c.len.ensures, c.read_setup.ensures.source.content) (begins c.in-Ok.opened.content setup c.in-Ok-read_setup.ensures.told)

pub returns-in-Err-read_setup-clause-refusal : goal.returns-in-Err-read_setup-clause-refusal
returns-in-Err-read_setup-clause-refusal g c =
    rw (← c.in-Ok.ensures.ok) (refuses c.in-Ok.opened.content c.in-Err-read_setup.fault c.in-Err-read_setup.ensures.told)
