use Rattle.gx_num.proofs.ReadBack.{digit_by_place}
use Rattle.gx_num.proofs.laws.digits_count_by_place.Goals as goal

pub returns : goal.returns
returns c = digit_by_place
