-- `map::gone` meets its contract, bit by bit. Assumes nothing.
use Prim.Native.Nat.{◌-◌, ◌^◌}
use mathlib.Core.Path.{ap, ◌∙◌}
use mathlib.Core.Bool.{Bool, ◌&&◌}
use native.Mathlib.Nat.{lt_of_le_of_lt}
use lib.Bits.{and_le_l}
use Rattle.task.specs.Map.{is_live, gone}
use Rattle.task.proofs.Bits.{live_and, live_not, is_map_of}
use Rattle.task.proofs.map.gone.Goals as goal

pub returns : goal.returns
unfolding gone
returns c =
    let before = c.args.before in
    let after = c.args.after in
    is_map_of 64 _ _ (lt_of_le_of_lt (and_le_l before (2 ^ 64 - 1 - after)) c.ranges.before.fits)
    (λ i l. live_and before (2 ^ 64 - 1 - after) i ∙ ap (λ (b : Bool). is_live before i && b) (live_not 64 after i c.ranges.after.fits l))
