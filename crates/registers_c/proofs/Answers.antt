-- What the functions for a register come to, once the lengths have passed: adding refused, or the entry put; a look-up refused, or the entry written.
-- Assumes nothing.
use mathlib.Core.Path.{◌≡◌, refl, sym, ap, ◌∙◌}
use mathlib.Core.List.{List}
use Prim.Native.Nat.{ℕ, zero, suc}
use borrow.Author.Tests.{ne_eqb}
use lib.Dec.{eqb}
use lib.ListN.{length}
use Rattle.forms.specs.Lists.{when, pick}
use Rattle.forms.specs.Refusals.{outcome}
use Rattle.forms.proofs.Refusals.{refused_keeps}
use Rattle.forms.proofs.Whole.{as_written}
use Rattle.registers.specs.declared.Entry.{Entry}
use Rattle.registers.specs.declared.Added.{Added}
use Rattle.registers.specs.declared.Found.{Found}
use Rattle.registers.specs.Registers.{held, place, extended, add_refusal, add, look_up_refusal, look_up, found}
use Rattle.registers.proofs.Refusals.{room_count, answered_number, add_done}
use Rattle.register_layout.specs.Layout.{entry_bytes, register_in, register_bytes, has_room}
use Rattle.register_layout.specs.Numbers.{register_number}
use Rattle.register_layout.proofs.Entries.{made}
use Rattle.register_layout.proofs.Registers.{length_read}
use Rattle.register_records.proofs.Parts.{room_there}
use Rattle.register_layout.proofs.Numbers.{register_passed}

-- ---- adding

module _ (reg wrapped : List ℕ) (number replaces : ℕ) where
  -- what is promised
  abbrev pub Stored : ℕ → List ℕ → Type 0
  Stored r after =
      (r ≡ register_number (length reg) (length wrapped) 40 (add_refusal (held (register_in reg)) number replaces))
      × (after ≡ outcome r (register_bytes (add (register_in reg) number replaces wrapped).register) reg)

  module _ (h : length reg ≡ 2824) (g : length wrapped ≡ 40) {x : Added} (answer : x ≡ add (register_in reg) number replaces wrapped) where
    own : x.number ≡ add_refusal (held (register_in reg)) number replaces
    own = ap (λ (a : Added). a.number) answer ∙ answered_number (register_in reg) number replaces wrapped

    told : x.number ≡ register_number (length reg) (length wrapped) 40 (add_refusal (held (register_in reg)) number replaces)
    told = own ∙ register_passed (length reg) (length wrapped) 40 _ h g

    pub not_stored : (x.number ≡ 0 → ⊥) → Stored x.number reg
    not_stored n = (told, refused_keeps x.number _ reg n)

    pub stored : x.number ≡ 0 → {e : Entry} {after : List ℕ} → e ≡ made number replaces wrapped
        → after ≡ when (has_room reg) (register_bytes (extended (register_in reg) e)) reg → Stored 0 after
    stored z p q =
        let done : add_refusal (held (register_in reg)) number replaces ≡ 0 = sym own ∙ z in (
          sym z ∙ told,
          q ∙ rw (room_there reg h (room_count (register_in reg) number replaces (length_read reg) done))
              (ap (λ (e : Entry). register_bytes (extended (register_in reg) e)) p
              ∙ ap (λ (a : Added). register_bytes a.register) (add_done (register_in reg) number replaces wrapped done)),
        )

-- ---- looking up

found_number : (n : ℕ) (es : List Entry) (start : ℕ) → (found n es start).number ≡ n
found_number zero es start = refl
found_number (suc n) es start = refl

module _ (reg entry : List ℕ) (number : ℕ) where
  -- what is promised
  abbrev pub Told : ℕ → List ℕ → ℕ → ℕ → Type 0
  Told r after rule followed =
      (r ≡ register_number (length reg) (length entry) 44 (look_up_refusal (held (register_in reg)) number))
      × ((after ≡ outcome r (entry_bytes (look_up (register_in reg) number).entry) entry)
      × ((rule ≡ pick (eqb r 0) (look_up (register_in reg) number).rule) × (followed ≡ pick (eqb r 0) (look_up (register_in reg) number).followed)))

  module _ (h : length reg ≡ 2824) (g : length entry ≡ 44) {x : Found} (answer : x ≡ look_up (register_in reg) number) where
    passed : x.number ≡ register_number (length reg) (length entry) 44 (look_up_refusal (held (register_in reg)) number)
    unfolding look_up
    passed =
        ap (λ (f : Found). f.number) answer
        ∙ found_number (look_up_refusal (held (register_in reg)) number) (held (register_in reg)) (place number (held (register_in reg)))
        ∙ register_passed (length reg) (length entry) 44 _ h g

    pub not_found : (x.number ≡ 0 → ⊥) → Told x.number entry 0 0
    unfolding pick
    not_found n =
        let e = ne_eqb x.number 0 n in
        (passed, (refused_keeps x.number _ entry n, (rw e refl, rw e refl)))

    pub given : x.number ≡ 0 → {after : List ℕ} → after ≡ when (eqb (length entry) 44) (entry_bytes x.entry) entry → Told 0 after x.rule x.followed
    unfolding pick
    given z q = (
      sym z ∙ passed,
      (as_written entry _ 44 g q ∙ ap (λ (f : Found). entry_bytes f.entry) answer, (ap (λ (f : Found). f.rule) answer, ap (λ (f : Found). f.followed) answer)),
    )
