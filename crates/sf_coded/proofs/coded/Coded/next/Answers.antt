use Rattle.sf_coded.proofs.Records.{follows_on}
use Rattle.sf_coded.proofs.coded.Coded.next.Goals as goal

pub returns : goal.returns
returns g c =
    let old = c.args.self.now in
    let new = c.go_on.new.self in
    record {
      told = c.go_on.ensures.told;
      read = λ samples whole. follows_on old.source.content new.source.content old.setup new.setup samples old.place old.source.size new.place
          c.go_on.result c.go_on.ensures.told c.go_on.ensures.moves c.go_on.ensures.source.content c.go_on.ensures.setup whole;
      moves = c.go_on.ensures.moves;
      over = c.go_on.ensures.over;
      kept = c.go_on.ensures.kept;
      again = c.go_on.ensures.again;
      setup = c.go_on.ensures.setup;
      source = c.go_on.ensures.source;
    }
