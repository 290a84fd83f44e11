use Rattle.time_primitive.proofs.Spelling.{one_form}
use Rattle.time_primitive.proofs.laws.no_text_has_two_forms.Goals as goal

pub returns : goal.returns
returns c = one_form
