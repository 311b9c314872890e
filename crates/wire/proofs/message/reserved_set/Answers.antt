-- `wire::message::reserved_set` meets its contract. Assumes nothing.
use Rattle.std.specs.Prelude.{◌≡◌}
use mathlib.Core.Path.{refl, ◌∙◌}
use Rattle.wire.specs.Messages.{rows, row_of}
use Rattle.wire.proofs.Rows.{row_is, none_found}
use Rattle.wire.proofs.Masks.{masked_is, no_row}
use Rattle.wire.proofs.message.reserved_set.Goals as goal

pub returns-in_default : goal.returns-in_default
returns-in_default c =
    let none : row_of c.byte_at.result ≡ rows = none_found c.byte_at.result c.row_of.ensures c.in_default.is in
    no_row c.args.m.now refl (rw c.byte_at.ensures at none)

pub returns : goal.returns
returns c =
    let row : c.in-Some.row ≡ row_of c.byte_at.result = row_is c.byte_at.result c.row_of.ensures c.in-Some.is in
    c.any_masked.ensures ∙ masked_is c.args.m.now (rw c.byte_at.ensures at row) c.type_inv.m
