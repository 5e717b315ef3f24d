-- What the crates above cite: the facts that src/laws.rt states, by name.
pub use Rattle.sf_tick.proofs.Ticks.{tick_rises, tick_zero, tick_below}

pub ruleset tick_laws = (tick_rises, tick_zero, tick_below)
