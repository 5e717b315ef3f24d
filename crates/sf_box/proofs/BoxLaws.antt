-- What the crates above cite: the facts that src/laws.rt states, by name.
pub use Rattle.sf_box.proofs.Numbers.{length-be16, length-be32, length-be64, word16_of, word32_of, word64_of, drop_half, drop_word, drop_wide, length-box_of, length-wide_box, length-opened, length_facts}
pub use Rattle.sf_box.proofs.Boxes.{boxes_none, boxes_by_head, boxes_step, boxes_fault, box_step, box_wrong, box_end, head_of_box, box_body, boxes_box, boxes_wide}
pub use Rattle.sf_box.proofs.Heads.{first_tells}
pub use Rattle.sf_box.proofs.LeadingBoxes.{leading_boxes, leading_end, leading_none, leading_step}
pub use Rattle.sf_box.proofs.Parts.{tiled-append, length-tiled-cons, length-tiled-nil, boxes_tiled, boxes_tiled_then, laid-append, parts_laid, parts_tiled}

pub ruleset number_laws = (word16_of, word32_of, word64_of, drop_half, drop_word, drop_wide)

pub ruleset length_laws = (length-be16, length-be32, length-be64, length-box_of, length-wide_box, length-opened, length-tiled-nil, length-tiled-cons, tiled-append)

pub ruleset step_laws = (boxes_none, boxes_by_head, boxes_step, boxes_fault)

pub ruleset walk_laws = (box_step, box_wrong, box_end)

pub ruleset box_laws = (head_of_box, box_body, boxes_box, boxes_wide)

pub ruleset tiled_laws = (boxes_tiled, boxes_tiled_then, laid-append, parts_laid, parts_tiled)

pub ruleset leading_laws = (leading_none, leading_step, leading_end)
