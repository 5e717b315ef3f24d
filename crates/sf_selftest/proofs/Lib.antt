-- What the answers of the goals cite.
mod Bounds
mod MovieBound
mod OneFile
mod Units
mod Generated
mod Handing
mod GeneratedTracks
mod Saying
mod MadeFile
mod Counting
mod ReadWhole
mod PlanWords
