-- What two results that are equal say of what they hold; and that none is both. For the crates above too.
-- Assumes nothing.
use Rattle.std.specs.Prelude.{◌≡◌, Result, Ok, Err}
use Rattle.std.proofs.lemmas.Result.{IfOk-at_ok, IfErr-at_err}
use mathlib.Core.Path.{refl}

pub same_Ok : {A B : Type 0} (x y : A) → ◌≡◌ {A = Result A B} (Ok x) (Ok y) → x ≡ y
same_Ok x y e = IfOk-at_ok (λ z. x ≡ z) e refl

pub same_Err : {A B : Type 0} (x y : B) → ◌≡◌ {A = Result A B} (Err x) (Err y) → x ≡ y
same_Err x y e = IfErr-at_err (λ z. x ≡ z) e refl

pub ok-err : {A B : Type 0} {x : A} {y : B} → Ok x ≡ Err y → ⊥
ok-err e = IfErr-at_err (λ _. ⊥) e tt

pub err-ok : {A B : Type 0} {x : A} {y : B} → Err y ≡ Ok x → ⊥
err-ok e = IfOk-at_ok (λ _. ⊥) e tt
