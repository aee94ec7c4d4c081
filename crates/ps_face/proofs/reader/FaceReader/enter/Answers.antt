use Rattle.ps_face.proofs.Kept.{enters}
use Rattle.ps_face.proofs.reader.FaceReader.enter.Goals as goal

pub enter_as-requires : goal.enter_as-requires
enter_as-requires g c x = enters _ _ _ _ x
