use Rattle.gx_xml.proofs.OneReading.{sound_source}
use Rattle.gx_xml.proofs.laws.documents_are_sound.Goals as goal

pub returns : goal.returns
returns c = record { sound = λ text t d. (sound_source text t d).0; depth = λ text t d. (sound_source text t d).1 }
