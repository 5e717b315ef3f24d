-- What the crates above cite: the facts that src/laws.rt states, by name.
pub use Rattle.sf_make.proofs.Reading.{coded_back}
pub use Rattle.sf_make.proofs.Generated.{input_back, length-samples, length-input}

pub ruleset length_laws = (length-samples, length-input)
