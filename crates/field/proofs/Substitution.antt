-- Table 1 is one-to-one, and its inverse undoes it both ways: each by one computed test over the table.
-- Assumes nothing.
use mathlib.Core.Path.{◌≡◌, sym, ap, ◌∙◌}
use mathlib.Core.List.{List}
use Prim.Native.Nat.{ℕ, ◌^◌, ◌<◌}
use lib.Dec.{ltb, ltb→lt}
use Rattle.forms.specs.Words.{each_byte}
use Rattle.forms.proofs.Lists.{get_d_tabulate}
use Rattle.forms.proofs.Tests.{tested_at, tested_agree}
use Rattle.forms.proofs.Words.{OnBytes, each_undo}
use Rattle.field.specs.Substitution.{sub, sub_inv, invert}
use Rattle.field.specs.Published.{table1}

-- S and its inverse on bytes, each undoing the other
pub record Undo (f g : ℕ → ℕ) : Type 0 where
  pub there : OnBytes f
  pub back : OnBytes g
  pub back_there : (x : ℕ) → x < 2 ^ 8 → g (f x) ≡ x
  pub there_back : (y : ℕ) → y < 2 ^ 8 → f (g y) ≡ y

-- the list of the inverse gives the inverse
pub sub_invert : (s : List ℕ) (y : ℕ) → y < 2 ^ 8 → sub (invert s) y ≡ sub_inv s y
unfolding sub invert
sub_invert s y l = get_d_tabulate 256 (sub_inv s) 0 y l

pub table1_undo : Undo (sub table1) (sub_inv table1)
unfolding sub sub_inv table1
table1_undo = record {
  there = λ x l. ltb→lt (sub table1 x) 256 (tested_at 256 (λ x. ltb (sub table1 x) 256) tt x l);
  back = λ y l. ltb→lt (sub_inv table1 y) 256 (tested_at 256 (λ y. ltb (sub_inv table1 y) 256) tt y l);
  back_there = tested_agree 256 (λ x. sub_inv table1 (sub table1 x)) (λ x. x) tt;
  there_back = tested_agree 256 (λ y. sub table1 (sub_inv table1 y)) (λ y. y) tt;
}

-- one-to-one
pub undo_one_to_one : (f g : ℕ → ℕ) → Undo f g → (x y : ℕ) → x < 2 ^ 8 → y < 2 ^ 8 → f x ≡ f y → x ≡ y
undo_one_to_one f g u x y hx hy e = sym (u.back_there x hx) ∙ ap g e ∙ u.back_there y hy

-- at each byte of a word
pub undo_word : (f g : ℕ → ℕ) → Undo f g → (w : ℕ) → w < 2 ^ 64 → each_byte g (each_byte f w) ≡ w
undo_word f g u = each_undo f g u.there u.back_there
