-- The place of an id, as `place_of` and `path_of` answer it. Assumes nothing.
use Rattle.std.specs.Prelude.{Option, Some, None}
use Prim.Native.Nat.{ℕ, ◌<◌}
use mathlib.Core.Path.{◌≡◌, sym}
use mathlib.Core.Bool.{true, false}
use lib.Dec.{ltb}
use borrow.Author.Tests.{lt-ltb, ltb-true}
use Rattle.std.proofs.lemmas.Option.{none-some, same_Some}
use Rattle.wire.proofs.Table.{cond_ind}
use Rattle.table.specs.Tables.{if_listed}

pub listed_there : {n : ℕ} (k : ℕ) → n ≡ k → n < 8 → Some n ≡ if_listed k
listed_there k e l = rw (← e, lt-ltb _ _ l)

pub listed_nowhere : (k : ℕ) → 8 ≡ k → None ≡ if_listed k
listed_nowhere k e = rw (← e)

-- a place that is answered is the place, and is below 8; where none is answered, it is not
pub place_is : {n : ℕ} (k : ℕ) → Some n ≡ if_listed k → n ≡ k
place_is {n} k = cond_ind (λ (o : Option ℕ). Some n ≡ o → n ≡ k) (ltb k 8) (λ _ e. same_Some n k e) (λ _ e. absurd (none-some _ (sym e)))

pub place_below : {n : ℕ} (k : ℕ) → Some n ≡ if_listed k → ltb k 8 ≡ true
place_below {n} k = cond_ind (λ (o : Option ℕ). Some n ≡ o → ltb k 8 ≡ true) (ltb k 8) (λ l _. l) (λ _ e. absurd (none-some _ (sym e)))

pub place_past : (k : ℕ) → None ≡ if_listed k → ltb k 8 ≡ false
place_past k = cond_ind (λ (o : Option ℕ). None ≡ o → ltb k 8 ≡ false) (ltb k 8) (λ _ e. absurd (none-some _ e)) (λ g _. g)

pub place_fits : {n : ℕ} (k : ℕ) → Some n ≡ if_listed k → n < 8
place_fits k e = rw (place_is k e) (ltb-true k 8 (place_below k e))
