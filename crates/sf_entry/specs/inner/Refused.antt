-- Refusals of the configuration of video, as refusals of a setup.
use Rattle.sf_avc.specs.declared.config_body.ConfigFault.{ConfigFault}
use Rattle.sf_avc.specs.declared.config_body.ConfigFault.TheVariants as configs
use Rattle.sf_entry.specs.declared.track_setup.SetupFault.{SetupFault}
use Rattle.sf_entry.specs.declared.track_setup.SetupFault.TheVariants.{Avc, NoMemory}

-- a refusal of the configuration of video, as one of a setup
abbrev pub refused : ConfigFault → SetupFault
refused configs.NoMemory = NoMemory
refused fault = Avc fault
