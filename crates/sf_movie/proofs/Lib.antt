mod TrackRead
mod MovieRead
mod MovieBoxes
mod Times
mod KeptTracks
