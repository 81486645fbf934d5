-- What the refusals of the writer and of the keyed reader say in plain terms: which number when, in their order.
-- Assumes nothing.
use mathlib.Core.Path.{◌≡◌, refl, sym, ◌∙◌}
use mathlib.Core.Bool.{Bool, true, false, ◌&&◌}
use mathlib.Core.Logic.{◌↔◌}
use mathlib.Core.List.{List}
use Prim.Native.Nat.{ℕ, ◌+◌, ◌*◌, ◌/◌, ◌%◌, ◌≤◌}
use native.Mathlib.Omega.{arith}
use lib.Dec.{eqb, leb}
use Rattle.forms.specs.Refusals.{unless, Unless}
use Rattle.forms.proofs.Refusals.{unless_zero, unless_plain, unless_three, unless_four}
use Rattle.forms.proofs.Booleans.{eqb_iff, leb_iff, and_iff}
use Rattle.labyrinth.specs.declared.WorkingKey.{WorkingKey}
use Rattle.labyrinth.specs.Refusals.{legal, Legal, under_key}
use Rattle.labyrinth.proofs.Refusals.{legal_iff}
use Rattle.sets.specs.declared.Store.{Store}
use Rattle.sets.specs.Sets.{loaded}
use Rattle.pages.specs.Pages.{record_length, blocks, is_record, parts, tagged}
use Rattle.keyed_pages.specs.Keyed.{tag_under}
use Rattle.keyed_pages.specs.Refusals.{for_key, for_keys, write_lengths, write_refusal, read_refusal}

-- 0 to 4,096 whole blocks
pub body_iff : (k : ℕ) → ((eqb (k % 16) 0 && leb (k / 16) 4096) ≡ true) ↔ ((k % 16 ≡ 0) × (k ≤ 65536))
body_iff k =
    let h = and_iff (eqb (k % 16) 0) (leb (k / 16) 4096) (eqb_iff (k % 16) 0) (leb_iff (k / 16) 4096) in
    (λ e. let a = h.0 e in (a.0, omega (arith, a.0, a.1)), λ a. h.1 (a.0, omega (arith, a.1)))

-- ---- the keys

-- a key: 1 unless n is 1, 2 or 4, then 15 unless its set is loaded, then 12 unless n is 1, then what the further checks say
module _ (store : Store) (k : WorkingKey) (further : ℕ) where
  pub key_number : {last : Type 0} {r : ℕ} → r ≡ for_key store k further → (r ≡ further → last)
      → Unless (Legal k.n) (r ≡ 1) (Unless (loaded store k.set ≡ true) (r ≡ 15) (Unless (k.n ≡ 1) (r ≡ 12) last))
  unfolding for_key under_key
  key_number e f =
      unless_plain (legal k.n) 1 _ e (legal_iff k.n) (λ e.
      unless_plain (loaded store k.set) 15 _ e (λ t. t, λ t. t) (λ e.
      unless_plain (eqb k.n 1) 12 _ e (eqb_iff k.n 1) f))

  -- so it passes exactly when its set is loaded and n is 1
  pub key_passed : for_key store k further ≡ 0 → (k.n ≡ 1) × (loaded store k.set ≡ true) × (further ≡ 0)
  unfolding for_key under_key
  key_passed e =
      let a = unless_zero (legal k.n) 0 _ e in
      let b = unless_zero (loaded store k.set) 14 _ a.1 in
      let c = unless_zero (eqb k.n 1) 11 _ b.1 in
      ((eqb_iff k.n 1).0 c.0, b.0, c.1)

-- what two keys that pass are
pub record Keys_taken (store : Store) (sealing tagging : WorkingKey) : Type 0 where
  pub sealing_one : sealing.n ≡ 1
  pub sealing_loaded : loaded store sealing.set ≡ true
  pub tagging_one : tagging.n ≡ 1
  pub tagging_loaded : loaded store tagging.set ≡ true

-- a number that the checks of both keys give stays, whatever follows; and where they pass it is what follows
six : (a b c d e f : Bool) (further : ℕ) {r : ℕ} → r ≡ unless a 1 (unless b 15 (unless c 12 (unless d 1 (unless e 15 (unless f 12 0))))) → (r ≡ 0 → ⊥)
    → r ≡ unless a 1 (unless b 15 (unless c 12 (unless d 1 (unless e 15 (unless f 12 further)))))
six false b c d e f further p h = p
six true false c d e f further p h = p
six true true false d e f further p h = p
six true true true false e f further p h = p
six true true true true false f further p h = p
six true true true true true false further p h = p
six true true true true true true further p h = absurd (h p)

six_passed : (a b c d e f : Bool) (further : ℕ) → unless a 1 (unless b 15 (unless c 12 (unless d 1 (unless e 15 (unless f 12 0))))) ≡ 0
    → further ≡ unless a 1 (unless b 15 (unless c 12 (unless d 1 (unless e 15 (unless f 12 further)))))
six_passed a b c d e f further p =
    let h = unless_zero a 0 _ p in
    let i = unless_zero b 14 _ h.1 in
    let j = unless_zero c 11 _ i.1 in
    let k = unless_zero d 0 _ j.1 in
    let l = unless_zero e 14 _ k.1 in
    let m = unless_zero f 11 _ l.1 in
    rw (h.0, i.0, j.0, k.0, l.0, m.0)

module _ (store : Store) (sealing tagging : WorkingKey) (further : ℕ) where
  pub keys_passed : for_keys store sealing tagging further ≡ 0 → Keys_taken store sealing tagging × (further ≡ 0)
  unfolding for_keys
  keys_passed e =
      let a = key_passed store sealing (for_key store tagging further) e in
      let b = key_passed store tagging further a.2 in
      (record { sealing_one = a.0; sealing_loaded = a.1; tagging_one = b.0; tagging_loaded = b.1 }, b.2)

  -- as the reader tests it: both keys first, with 0 behind them, and what follows only where they pass
  pub keys_refused : {r : ℕ} → r ≡ for_keys store sealing tagging 0 → (r ≡ 0 → ⊥) → r ≡ for_keys store sealing tagging further
  unfolding for_keys for_key under_key
  keys_refused e h = six (legal sealing.n) (loaded store sealing.set) (eqb sealing.n 1) (legal tagging.n) (loaded store tagging.set) (eqb tagging.n 1) further e h

  pub keys_open : {r : ℕ} → r ≡ for_keys store sealing tagging 0 → r ≡ 0 → further ≡ for_keys store sealing tagging further
  unfolding for_keys for_key under_key
  keys_open e z = six_passed (legal sealing.n) (loaded store sealing.set) (eqb sealing.n 1) (legal tagging.n) (loaded store tagging.set) (eqb tagging.n 1) further (sym e ∙ z)

-- ---- the writer

-- what a record that is written has
pub record Write_taken (store : Store) (sealing tagging : WorkingKey) (title start text destination : ℕ) : Type 0 where
  pub keys : Keys_taken store sealing tagging
  pub titled : title ≡ 32
  pub started : start ≡ 16
  pub whole : text % 16 ≡ 0
  pub most : text ≤ 65536
  pub long : destination ≡ 77 + 17 * (text / 16)

module _ (store : Store) (sealing tagging : WorkingKey) (title start text destination : ℕ) where
  -- after the keys 19 unless the title is 32 bytes, then 6 unless the start block is 16, then 4 unless the body is whole blocks and at most 65,536 bytes,
  -- then 5 unless the destination has 77 bytes and 17 for each block, else 0
  pub lengths_number : {r : ℕ} → r ≡ write_lengths title start text destination
      → Unless (title ≡ 32) (r ≡ 19) (Unless (start ≡ 16) (r ≡ 6)
      (Unless ((text % 16 ≡ 0) × (text ≤ 65536)) (r ≡ 4) (Unless (destination ≡ 77 + 17 * (text / 16)) (r ≡ 5) (r ≡ 0))))
  unfolding write_lengths record_length
  lengths_number e =
      unless_plain (eqb title 32) 19 _ e (eqb_iff title 32) (λ e.
      unless_plain (eqb start 16) 6 _ e (eqb_iff start 16) (λ e.
      unless_plain (eqb (text % 16) 0 && leb (text / 16) 4096) 4 _ e (body_iff text) (λ e.
      unless_plain (eqb destination (77 + 17 * (text / 16))) 5 _ e (eqb_iff destination (77 + 17 * (text / 16))) (λ e. e))))

  pub write_taken : {r : ℕ} → r ≡ write_refusal store sealing tagging title start text destination → r ≡ 0
      → Write_taken store sealing tagging title start text destination
  unfolding write_refusal
  write_taken e z =
      let k = keys_passed store sealing tagging (write_lengths title start text destination) (sym e ∙ z) in
      let h = (unless_four (lengths_number refl)).0 k.1 in
      record { keys = k.0; titled = h.0; started = h.1; whole = h.2.0; most = h.2.1; long = h.3 }

-- ---- the keyed reader

-- what a record that is read has
pub record Read_taken (store : Store) (sealing tagging : WorkingKey) (r : List ℕ) (destination : ℕ) : Type 0 where
  pub keys : Keys_taken store sealing tagging
  pub laid : is_record r ≡ true
  pub right : tagged (tag_under store tagging) (parts r) ≡ true
  pub long : destination ≡ 16 * blocks r

module _ (store : Store) (sealing tagging : WorkingKey) (r : List ℕ) (destination : ℕ) where
  abbrev checks : ℕ
  checks = unless (is_record r) 19 (unless (tagged (tag_under store tagging) (parts r)) 20 (unless (eqb destination (16 * blocks r)) 5 0))

  -- after the keys 19 unless it is a record, then 20 unless its tag is the one of all bytes before 1F, then 5 unless the destination has 16 bytes for each
  -- block, else 0
  pub checks_number : {a : ℕ} → a ≡ checks
      → Unless (is_record r ≡ true) (a ≡ 19) (Unless (tagged (tag_under store tagging) (parts r) ≡ true) (a ≡ 20) (Unless (destination ≡ 16 * blocks r) (a ≡ 5) (a ≡ 0)))
  checks_number e =
      unless_plain (is_record r) 19 _ e (λ t. t, λ t. t) (λ e.
      unless_plain (tagged (tag_under store tagging) (parts r)) 20 _ e (λ t. t, λ t. t) (λ e.
      unless_plain (eqb destination (16 * blocks r)) 5 _ e (eqb_iff destination (16 * blocks r)) (λ e. e)))

  -- the whole order: both keys before them
  pub read_number : {a : ℕ} → a ≡ read_refusal store sealing tagging r destination
      → Unless (Legal sealing.n) (a ≡ 1) (Unless (loaded store sealing.set ≡ true) (a ≡ 15) (Unless (sealing.n ≡ 1) (a ≡ 12)
      (Unless (Legal tagging.n) (a ≡ 1) (Unless (loaded store tagging.set ≡ true) (a ≡ 15) (Unless (tagging.n ≡ 1) (a ≡ 12)
      (Unless (is_record r ≡ true) (a ≡ 19) (Unless (tagged (tag_under store tagging) (parts r) ≡ true) (a ≡ 20) (Unless (destination ≡ 16 * blocks r) (a ≡ 5) (a ≡ 0)))))))))
  unfolding read_refusal for_keys
  read_number e = key_number store sealing _ e (λ e. key_number store tagging _ e checks_number)

  pub read_taken : {a : ℕ} → a ≡ read_refusal store sealing tagging r destination → a ≡ 0 → Read_taken store sealing tagging r destination
  unfolding read_refusal
  read_taken e z =
      let k = keys_passed store sealing tagging checks (sym e ∙ z) in
      let h = (unless_three (checks_number refl)).0 k.1 in
      record { keys = k.0; laid = h.0; right = h.1; long = h.2 }
