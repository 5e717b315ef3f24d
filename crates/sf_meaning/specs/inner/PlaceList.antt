-- The places of chunks as the code holds them.
use Rattle.std.specs.Prelude.{ℕ, List}
use Rattle.sf_meaning.specs.declared.place_list.KeptPlaces.{KeptPlaces}
use Rattle.sf_meaning.specs.declared.place_list.KeptPlaces.TheVariants.{Four, Eight}

-- the places, one by one
abbrev pub kept_places : KeptPlaces → List ℕ
kept_places (Four places) = places
kept_places (Eight places) = places
