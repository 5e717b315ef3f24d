-- What the crates above cite: facts that src/laws.rt states, by name.
pub use Rattle.sf_gather.proofs.Accepted.{follow_append, append_follows, last_from-append, refusal_tells}
pub use Rattle.sf_gather.proofs.Growing.{closed_first}
pub use Rattle.sf_gather.proofs.ProperLists.{chunks_joined, chunks_proper}
pub use Rattle.sf_gather.proofs.Tails.{extended_proper, proper_extends, proper_front}

pub ruleset follow_laws = (follow_append, append_follows, last_from-append)
