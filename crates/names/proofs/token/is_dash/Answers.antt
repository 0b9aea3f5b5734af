-- A longer field is no dash. Assumes nothing.
use mathlib.Core.Path.{sym}
use native.Mathlib.Omega.{arith}
use Rattle.text.proofs.Lines.{same_length}
use Rattle.names.proofs.token.is_dash.Goals as goal

pub returns-in_default-3 : goal.returns-in_default-3
returns-in_default-3 c = sym (same_length c.args.f.now _ (λ e. omega (arith, c.in_default.len_at_least)))
