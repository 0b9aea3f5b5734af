-- The mask of a label's literals is that of its records, and a text of another form has the one bit. Assumes
-- nothing.
use mathlib.Core.Path.{sym, ◌∙◌, ap}
use mathlib.Core.List.{List, map}
use Rattle.names.specs.Names.{Literal}
use Rattle.dispatch.specs.Said.{said_from}
use Rattle.dispatch.specs.HeardText.{record_of}
use Rattle.dispatch.proofs.HeardText.{said-heard, said-other}
use Rattle.dispatch.proofs.heard_text.said.Goals as goal

pub returns-then-not-is_heard : goal.returns-then-not-is_heard
returns-then-not-is_heard c =
    let other = sym c.is_heard.ensures ∙ c.if-not-is_heard.true in
    c.with.ensures ∙ sym (said-other c.args.text.now other)

pub returns : goal.returns
returns c =
    let heard = sym c.is_heard.ensures ∙ c.if-not-is_heard.false in
    c.said_by.ensures ∙ ap (λ (ls : List Literal). said_from 0 (map record_of ls)) c.literals_of.ensures
    ∙ sym (said-heard c.args.text.now heard)
