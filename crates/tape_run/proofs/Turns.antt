-- The loop over a tape: what holds at each of its turns.
-- Assumes nothing.
use mathlib.Core.Path.{◌≡◌, refl, sym, ap, ap₂, ◌∙◌, subst}
use mathlib.Core.Bool.{Bool, true, false, not}
use mathlib.Core.List.{List, [], ◌++◌, append_assoc, append-nil}
use Prim.Native.Nat.{ℕ, zero, suc, ◌+◌, ◌-◌, ◌≤◌, ◌<◌}
use native.Mathlib.Omega.{arith}
use lib.ListN.{length, take, drop, length-append, length-drop}
use lib.Seq.{take_all, take_at, drop-drop}
use Rattle.forms.specs.Lists.{over, when}
use Rattle.forms.proofs.Parts.{part_to_end, over_more, over_length}
use Rattle.tape_rules.specs.declared.Tape.{Tape}
use Rattle.tape_rules.specs.declared.Stepped.{Stepped}
use Rattle.tape_rules.specs.Steps.{Answer, fresh, step, returned}
use Rattle.tape_rules.proofs.Cases.{from_on}
use Rattle.tape_rules.proofs.Bounds.{one_if, one_if_top, step_bounded, step_moves}
use Rattle.tape_run.specs.Runs.{steps, tape_steps, joined, tape_answers}

-- ---- one step into a buffer of 65 bytes

-- what it returns, and the bytes that it wrote, at the front of the buffer
pub record Answered_in (a : Answer) (s : Stepped) (buffer : List ℕ) : Type 0 where
  pub returns : s ≡ returned a
  pub front : take s.written buffer ≡ a.written
  pub long : length (take s.written buffer) ≡ s.written

pub answered_in : (t : Tape) (rest old : List ℕ) {s : Stepped} {buffer : List ℕ} → 65 ≡ length old
    → (s ≡ returned (step t rest (length old))) × (buffer ≡ over (step t rest (length old)).written old) → Answered_in (step t rest 65) s buffer
answered_in t rest old {s} {buffer} l h =
    let is : s ≡ returned (step t rest 65) = h.0 ∙ ap (λ (k : ℕ). returned (step t rest k)) (sym l) in
    let w : s.written ≡ length (step t rest 65).written = ap (λ (x : Stepped). x.written) is in
    let f : take s.written buffer ≡ (step t rest 65).written = ap (take s.written) (h.1 ∙ ap (λ (k : ℕ). over (step t rest k).written old) (sym l)) ∙ take_at (step t rest 65).written _ s.written (sym w) in
    record { returns = is; front = f; long = ap length f ∙ sym w }

-- bytes are copied to the front of the answers
pub copied : (answers w : List ℕ) {x new : List ℕ} → x ≡ w → length w ≤ length answers → new ≡ take (length answers) x ++ drop (length x) answers → new ≡ over w answers
copied answers w e h p =
    p ∙ ap (λ (y : List ℕ). take (length answers) y ++ drop (length y) answers) e ∙ ap (λ (y : List ℕ). y ++ drop (length w) answers) (take_all (length answers) w h)

-- the first step of those to come, and the others
joined_next : (f : ℕ) (t : Tape) (tape : List ℕ) (at : ℕ) → 0 < f → let a = step t (drop at tape) 65 in
    joined (steps f t (drop at tape)) ≡ a.written ++ joined (when a.next.ended [] (steps (f - 1) a.next (drop (at + a.taken) tape)))
unfolding steps joined
joined_next zero t tape at h = let z : ⊥ = omega arith in absurd z
joined_next (suc f) t tape at h =
    let a = step t (drop at tape) 65 in
    let e : f ≡ suc f - 1 = omega arith in
    ap₂ (λ (k : ℕ) (x : List ℕ). a.written ++ joined (when a.next.ended [] (steps k a.next x))) e (drop-drop a.taken at tape)

-- ---- a turn

-- at a turn: the state t, the answers as they are now, the place in the tape and that in the answers
pub record Turning (tape before : List ℕ) (t : Tape) (present : List ℕ) (at put : ℕ) : Type 0 where
  pub done : List ℕ
  pub fuel : ℕ
  pub in_tape : at ≤ length tape
  pub behind : put ≤ at + one_if t.ended
  pub so_far : put ≡ length done
  pub written : present ≡ over done before
  pub enough : t.ended ≡ false → length tape - at < fuel
  pub to_come : done ++ joined (when t.ended [] (steps fuel t (drop at tape))) ≡ tape_answers tape

pub turn_first : (tape before : List ℕ) {t : Tape} → t ≡ fresh → Turning tape before t before 0 0
unfolding tape_answers tape_steps
turn_first tape before {t} e =
    rw e
    (record {
      done = [];
      fuel = suc (length tape);
      in_tape = omega arith;
      behind = omega arith;
      so_far = refl;
      written = refl;
      enough = λ _. omega arith;
      to_come = refl;
    })

module _ {tape before : List ℕ} {t : Tape} {present : List ℕ} {at put : ℕ} (w : Turning tape before t present at put) where
  -- where the loop stops
  pub turn_last : t.ended ≡ true → (put ≡ length (tape_answers tape)) × (present ≡ over (tape_answers tape) before)
  unfolding joined
  turn_last e =
      let all : w.done ≡ tape_answers tape = sym (append-nil w.done) ∙ ap (λ (b : Bool). w.done ++ joined (when b [] (steps w.fuel t (drop at tape)))) (sym e) ∙ w.to_come in
      (w.so_far ∙ ap length all, w.written ∙ ap (λ (x : List ℕ). over x before) all)

  turn_on : t.ended ≡ false → let a = step t (drop at tape) 65 in
      Turning tape before a.next (take put present ++ over a.written (drop put present)) (at + a.taken) (put + length a.written)
  turn_on e =
      let a = step t (drop at tape) 65 in
      let b = step_bounded t (drop at tape) 65 in
      let l = length-drop at tape in
      let f = w.enough e in
      let p = w.in_tape in
      let q = w.behind in
      let r = w.so_far in
      record {
        done = w.done ++ a.written;
        fuel = w.fuel - 1;
        in_tape = omega arith;
        behind = omega (arith, ap one_if e);
        so_far = ap (λ (k : ℕ). k + length a.written) r ∙ sym (length-append w.done a.written);
        written = ap (λ (x : List ℕ). take put x ++ over a.written (drop put x)) w.written ∙ over_more w.done a.written before put r;
        enough = λ z. let m = step_moves t (drop at tape) z in omega arith;
        to_come = append_assoc w.done a.written _
            ∙ ap (λ (x : List ℕ). w.done ++ x) (sym (joined_next w.fuel t tape at (omega arith)))
            ∙ ap (λ (b : Bool). w.done ++ joined (when b [] (steps w.fuel t (drop at tape)))) (sym e) ∙ w.to_come;
      }

  -- a turn of the loop, by what the step returned and what came back
  pub turn_next : {s : Stepped} {next : List ℕ} → t.ended ≡ false → s ≡ returned (step t (drop at tape) 65)
      → next ≡ take put present ++ over (step t (drop at tape) 65).written (drop put present) → Turning tape before s.next next (at + s.taken) (put + s.written)
  turn_next {s} {next} e p q =
      subst (λ (x : Stepped). Turning tape before x.next next (at + x.taken) (put + x.written)) (sym p)
      (subst (λ (x : List ℕ). Turning tape before (step t (drop at tape) 65).next x (at + (step t (drop at tape) 65).taken) (put + length (step t (drop at tape) 65).written)) (sym q) (turn_on e))

  pub turn_length : length tape < length before → length present ≡ length before
  turn_length h =
      let p = w.in_tape in
      let q = w.behind in
      let r = w.so_far in
      ap length w.written ∙ over_length w.done before (omega (arith, one_if_top t.ended))

-- what is left of the tape and of the answers, as the loop lends them
pub lent : (tape : List ℕ) (present : List ℕ) (t : Tape) (at put : ℕ) {s : Stepped} {ys : List ℕ}
    → s ≡ returned (step t (take (length tape - at) (drop at tape)) 65)
    → ys ≡ over (step t (take (length tape - at) (drop at tape)) 65).written (take (length present - put) (drop put present))
    → (s ≡ returned (step t (drop at tape) 65))
    × (take put present ++ (ys ++ drop (length present - put) (drop put present)) ≡ take put present ++ over (step t (drop at tape) 65).written (drop put present))
lent tape present t at put {s} {ys} e f = (
  e ∙ ap (λ (x : List ℕ). returned (step t x 65)) (from_on tape at),
  part_to_end present ys put
      ∙ ap (λ (x : List ℕ). take put present ++ x) (f ∙ ap₂ (λ (x y : List ℕ). over (step t x 65).written y) (from_on tape at) (from_on present put)),
)

-- what is left to do is less: the bytes left, and one turn more while it goes on
pub turns_less : (tape : List ℕ) (t : Tape) (at : ℕ) {s : Stepped} → at ≤ length tape → s ≡ returned (step t (drop at tape) 65)
    → length tape - (at + s.taken) + one_if (not s.next.ended) < length tape - at + 1
turns_less tape t at {s} h e =
    subst (λ (x : Stepped). length tape - (at + x.taken) + one_if (not x.next.ended) < length tape - at + 1) (sym e) (either (step t (drop at tape) 65).next.ended refl)
  where
    either : (b : Bool) → (step t (drop at tape) 65).next.ended ≡ b
        → length tape - (at + (step t (drop at tape) 65).taken) + one_if (not b) < length tape - at + 1
    either true z = omega arith
    either false z =
        let m = step_moves t (drop at tape) z in
        let b = (step_bounded t (drop at tape) 65).within in
        omega (arith, length-drop at tape)
