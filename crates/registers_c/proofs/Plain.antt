-- The numbers in plain terms.
-- Assumes nothing.
use mathlib.Core.Path.{◌≡◌}
use mathlib.Core.List.{List}
use Prim.Native.Nat.{ℕ}
use lib.ListN.{length}
use Rattle.forms.specs.Refusals.{Unless}
use Rattle.registers.specs.Registers.{held, add_refusal, look_up_refusal, AddNumber, LookUpNumber}
use Rattle.registers.proofs.Refusals.{add_number, look_up_number}
use Rattle.register_layout.specs.Layout.{register_in}
use Rattle.register_layout.specs.Numbers.{register_number}
use Rattle.register_layout.proofs.Numbers.{register_plain}

-- adding: 4 unless the register is 2824 bytes and the wrapped key 40, then 21, 22 and 23
pub add_plain : (reg wrapped : List ℕ) (number replaces : ℕ) {r : ℕ} → r ≡ register_number (length reg) (length wrapped) 40 (add_refusal (held (register_in reg)) number replaces)
    → Unless ((length reg ≡ 2824) × (length wrapped ≡ 40)) (r ≡ 4) (AddNumber (held (register_in reg)) number replaces r)
add_plain reg wrapped number replaces e = register_plain (length reg) (length wrapped) 40 _ e (λ e. add_number (held (register_in reg)) number replaces e)

-- looking up: 4 unless the register is 2824 bytes and the room for an entry 44, then 22
pub find_plain : (reg entry : List ℕ) (number : ℕ) {r : ℕ} → r ≡ register_number (length reg) (length entry) 44 (look_up_refusal (held (register_in reg)) number)
    → Unless ((length reg ≡ 2824) × (length entry ≡ 44)) (r ≡ 4) (LookUpNumber (held (register_in reg)) number r)
find_plain reg entry number e = register_plain (length reg) (length entry) 44 _ e (λ e. look_up_number (held (register_in reg)) number e)
