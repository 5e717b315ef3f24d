-- The sizes of samples as the code holds them.
use Rattle.std.specs.Prelude.{ℕ, List, take}
use Rattle.sf_meaning.specs.SampleSizes.{both_halves}
use Rattle.sf_meaning.specs.declared.size_list.KeptSizes.{KeptSizes}
use Rattle.sf_meaning.specs.declared.size_list.KeptSizes.TheVariants.{Of32, Of16, Of8, Of4}

-- the sizes, one by one
abbrev pub kept_sizes : KeptSizes → List ℕ
kept_sizes (Of32 sizes) = sizes
kept_sizes (Of16 sizes) = sizes
kept_sizes (Of8 sizes) = sizes
kept_sizes (Of4 bytes count) = take count (both_halves bytes)
