-- Eight bytes A6.
-- Assumes nothing.
use mathlib.Core.Path.{refl}
use Rattle.forms.specs.Lists.{tabulate}
use Rattle.forms.specs.Words.{byte}
use Rattle.forms.specs.Strings.{string}
use Rattle.modes.specs.KeyWrap.{ICV1}
use Rattle.key_wrap_lent.proofs.check_value.Goals as goal

pub returns : goal.returns
unfolding ICV1 string tabulate byte
returns c = refl
