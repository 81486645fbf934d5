-- Laws of a whole tape: it is walked step by step to its end, and its answers fit.
-- Assumes nothing.
use mathlib.Core.Path.{◌≡◌, refl, sym, ap, ap₂, ◌∙◌, subst}
use mathlib.Core.Bool.{Bool, true, false, true≢false}
use mathlib.Core.List.{List, [], ◌∷◌, ◌++◌}
use mathlib.Core.Logic.{inl, inr, ⊎_elim, ◌↔◌}
use Prim.Native.Nat.{ℕ, zero, suc, ◌+◌, ◌≤◌, ◌<◌}
use native.Mathlib.Omega.{arith}
use borrow.Author.Tests.{eqb-true, eqb-false, eq-eqb, ne_eqb, ltb-true, ltb-false, lt-ltb, le-ltb}
use lib.Dec.{eqb, ltb}
use lib.ListN.{length, drop, length-append, length-drop}
use Rattle.forms.specs.Lists.{over, when}
use Rattle.forms.specs.Refusals.{Unless}
use Rattle.forms.proofs.Booleans.{when_all}
use Rattle.tape_rules.specs.declared.Tape.{Tape}
use Rattle.tape_rules.specs.Steps.{Answer, fresh, step}
use Rattle.tape_rules.proofs.Bounds.{one_if, step_bounded, step_moves}
use Rattle.tape_rules.proofs.Accepted.{Ending, ends_iff}
use Rattle.tape_rules.proofs.Used.{Alike, Same, step_used}
use Rattle.tape_run.specs.declared.Answered.{Answered}
use Rattle.tape_run.specs.Runs.{steps, tape_steps, joined, tape_answers, last_rest, Ran, run, returned}

-- ---- the walk

-- a tape walked from a state on: each step begins where the one before stopped, in the state that it left; the walk goes on while that
-- state is not ended, and stops where it is
pub data Walked : Tape → List ℕ → List Answer → Type 0 where
  last : {t : Tape} {rest : List ℕ} → t.ended ≡ false → (step t rest 65).next.ended ≡ true → Walked t rest (step t rest 65 ∷ [])
  more : {t : Tape} {rest : List ℕ} {xs : List Answer} → t.ended ≡ false → (step t rest 65).next.ended ≡ false
      → Walked (step t rest 65).next (drop (step t rest 65).taken rest) xs → Walked t rest (step t rest 65 ∷ xs)

-- what is left after a step that does not end is less
less : (k : ℕ) (t : Tape) (rest : List ℕ) → length rest < suc k → (step t rest 65).next.ended ≡ false → length (drop (step t rest 65).taken rest) < k
less k t rest h e = omega (arith, length-drop (step t rest 65).taken rest, step_moves t rest e, (step_bounded t rest 65).within)

-- enough steps walk the tape
pub steps_walked : (k : ℕ) (t : Tape) (rest : List ℕ) → t.ended ≡ false → length rest < k → Walked t rest (steps k t rest)
unfolding steps
steps_walked zero t rest e h = let f : ⊥ = omega arith in absurd f
steps_walked (suc k) t rest e h =
    when_all (λ (xs : List Answer). Walked t rest (step t rest 65 ∷ xs)) (step t rest 65).next.ended (λ z. last e z)
    (λ z. more e z (steps_walked k (step t rest 65).next (drop (step t rest 65).taken rest) z (less k t rest h z)))

-- a whole tape is walked: no step is missing at its end
pub tape_walked : (tape : List ℕ) → Walked fresh tape (tape_steps tape)
unfolding tape_steps
tape_walked tape = steps_walked (suc (length tape)) fresh tape refl (omega arith)

-- there is one walk
pub walked_once : {t : Tape} {rest : List ℕ} {xs ys : List Answer} → Walked t rest xs → Walked t rest ys → xs ≡ ys
walked_once (last _ e) (last _ f) = refl
walked_once (last _ e) (more _ f _) = absurd (true≢false (sym e ∙ f))
walked_once (more _ e _) (last _ f) = absurd (true≢false (sym f ∙ e))
walked_once (more {t} {rest} _ _ v) (more _ _ w) = ap (λ (x : List Answer). step t rest 65 ∷ x) (walked_once v w)

-- so no command is left: more steps at most change nothing
pub more_steps : (k : ℕ) (tape : List ℕ) → length tape < k → steps k fresh tape ≡ tape_steps tape
more_steps k tape h = walked_once (steps_walked k fresh tape refl h) (tape_walked tape)

-- ---- the end

-- the state that steps leave
unfoldable pub last_state : Tape → List Answer → Tape
last_state t [] = t
last_state t (a ∷ xs) = last_state a.next xs

walked_ended : {t : Tape} {rest : List ℕ} {xs : List Answer} → Walked t rest xs → (last_state t xs).ended ≡ true
unfolding last_state
walked_ended (last _ e) = e
walked_ended (more _ _ w) = walked_ended w

pub last_rest_more : {t : Tape} {rest : List ℕ} {xs : List Answer} (a : Answer) (before : List ℕ) → Walked t rest xs → last_rest before (a ∷ xs) ≡ last_rest (drop a.taken before) xs
unfolding last_rest
last_rest_more a before (last _ _) = refl
last_rest_more a before (more _ _ _) = refl

walked_ending : {t : Tape} {rest : List ℕ} {xs : List Answer} → Walked t rest xs → Ending (last_rest rest xs)
unfolding last_rest
walked_ending (last {t} {rest} o e) = ⊎_elim (λ z. absurd (true≢false (sym z ∙ o))) (λ z. z) ((ends_iff t rest).0 e)
walked_ending (more {t} {rest} o e w) = rw (last_rest_more (step t rest 65) rest w) (walked_ending w)

-- the last state is ended
pub tape_ended : (tape : List ℕ) → (last_state fresh (tape_steps tape)).ended ≡ true
tape_ended tape = walked_ended (tape_walked tape)

-- the last step begins where no command is left: at a 00, an unknown command, one that is cut short or an empty rest
pub tape_ending : (tape : List ℕ) → Ending (last_rest tape (tape_steps tape))
tape_ending tape = walked_ending (tape_walked tape)

-- ---- the answers fit

walked_fits : {t : Tape} {rest : List ℕ} {xs : List Answer} → Walked t rest xs → length (joined xs) ≤ length rest + 1
unfolding joined
walked_fits (last {t} {rest} _ e) =
    let b = step_bounded t rest 65 in
    simp length-append (omega (arith, ap one_if e))
walked_fits (more {t} {rest} {xs} _ e w) =
    let b = step_bounded t rest 65 in
    let r = walked_fits w in
    simp length-append (omega (arith, length-drop (step t rest 65).taken rest, ap one_if e))

-- a tape's answers are at most one byte longer than the tape
pub tape_fits : (tape : List ℕ) → length (tape_answers tape) ≤ length tape + 1
unfolding tape_answers
tape_fits tape = walked_fits (tape_walked tape)

-- ---- the unused words do not matter

when_joined : {b c : Bool} (xs ys : List Answer) → b ≡ c → joined xs ≡ joined ys → joined (when b [] xs) ≡ joined (when c [] ys)
when_joined {b} {c} xs ys e h = ap (λ (d : Bool). joined (when d [] xs)) e ∙ either c
  where
    either : (c : Bool) → joined (when c [] xs) ≡ joined (when c [] ys)
    either true = refl
    either false = h

pub steps_used : (k : ℕ) (t u : Tape) (rest : List ℕ) → Alike t u → joined (steps k t rest) ≡ joined (steps k u rest)
unfolding steps joined
steps_used zero t u rest h = refl
steps_used (suc k) t u rest h =
    let s : Same (step t rest 65) (step u rest 65) = step_used t u h rest 65 in
    ap₂ ◌++◌ s.written
    (when_joined _ _ s.next.ended
    (ap (λ (n : ℕ). joined (steps k (step t rest 65).next (drop n rest))) s.taken
    ∙ steps_used k (step t rest 65).next (step u rest 65).next (drop (step u rest 65).taken rest) s.next))

-- ---- the run's rules, as the code tests them

-- what the code gives, by what the definition comes to
pub gives : {r q : Ran} {x : Answered} {new : List ℕ} (old : List ℕ) → r ≡ q → (x ≡ returned q) × (new ≡ over q.written old)
    → (x ≡ returned r) × (new ≡ over r.written old)
gives old e h = (h.0 ∙ ap (λ (y : Ran). returned y) (sym e), h.1 ∙ ap (λ (y : Ran). over y.written old) (sym e))

module _ (tape : List ℕ) (room : ℕ) where
  pub run_room : (room ≡ 65537 → ⊥) → run tape room ≡ record { number = 5; written = [] }
  unfolding run
  run_room h = rw (ne_eqb room 65537 h)

  pub run_long : room ≡ 65537 → 65536 < length tape → run tape room ≡ record { number = 4; written = 4 ∷ [] }
  unfolding run
  run_long r h = rw (eq-eqb room 65537 r, lt-ltb 65536 (length tape) h)

  pub run_whole : room ≡ 65537 → length tape ≤ 65536 → run tape room ≡ record { number = 0; written = tape_answers tape }
  unfolding run
  run_whole r h = rw (eq-eqb room 65537 r, le-ltb 65536 (length tape) h)

-- ---- in plain terms

-- of whatever is said of a run: 5 unless there are 65,537 bytes for the answers, then 4 unless the tape has at most 65,536, else the tape's answers
pub run_says : (P : Ran → Type 0) (tape : List ℕ) (room : ℕ) → P (run tape room)
    → Unless (room ≡ 65537) (P (record { number = 5; written = [] }))
    (Unless (length tape ≤ 65536) (P (record { number = 4; written = 4 ∷ [] })) (P (record { number = 0; written = tape_answers tape })))
run_says P tape room p = by_tests (eqb room 65537) refl (ltb 65536 (length tape)) refl
  where
    by_tests : (b : Bool) → eqb room 65537 ≡ b → (c : Bool) → ltb 65536 (length tape) ≡ c
        → Unless (room ≡ 65537) (P (record { number = 5; written = [] }))
        (Unless (length tape ≤ 65536) (P (record { number = 4; written = 4 ∷ [] })) (P (record { number = 0; written = tape_answers tape })))
    by_tests false e c f = let r = eqb-false room 65537 e in inl (r, subst P (run_room tape room r) p)
    by_tests true e true f =
        let r = eqb-true room 65537 e in
        let h = ltb-true 65536 (length tape) f in
        inr (r, inl (λ k. omega arith, subst P (run_long tape room r h) p))
    by_tests true e false f =
        let r = eqb-true room 65537 e in
        let h = ltb-false 65536 (length tape) f in
        inr (r, inr (h, subst P (run_whole tape room r h) p))

-- a run's number is 0 exactly when the answers have 65,537 bytes and the tape at most 65,536
pub run_iff : (tape : List ℕ) (room : ℕ) → ((run tape room).number ≡ 0) ↔ ((room ≡ 65537) × (length tape ≤ 65536))
run_iff tape room = (λ z. down z (eqb room 65537) refl (ltb 65536 (length tape)) refl, λ h. ap (λ (r : Ran). r.number) (run_whole tape room h.0 h.1))
  where
    down : (run tape room).number ≡ 0 → (b : Bool) → eqb room 65537 ≡ b → (c : Bool) → ltb 65536 (length tape) ≡ c → (room ≡ 65537) × (length tape ≤ 65536)
    down z false e c f =
        let n : 5 ≡ (run tape room).number = sym (ap (λ (r : Ran). r.number) (run_room tape room (eqb-false room 65537 e))) in
        let g : ⊥ = omega arith in absurd g
    down z true e true f =
        let n : 4 ≡ (run tape room).number = sym (ap (λ (r : Ran). r.number) (run_long tape room (eqb-true room 65537 e) (ltb-true 65536 (length tape) f))) in
        let g : ⊥ = omega arith in absurd g
    down z true e false f = (eqb-true room 65537 e, ltb-false 65536 (length tape) f)

-- what a run writes fits in the answers
pub run_fits : (tape : List ℕ) (room : ℕ) → length (run tape room).written ≤ room
run_fits tape room = by_tests (eqb room 65537) refl (ltb 65536 (length tape)) refl
  where
    by_tests : (b : Bool) → eqb room 65537 ≡ b → (c : Bool) → ltb 65536 (length tape) ≡ c → length (run tape room).written ≤ room
    by_tests false e c f = rw (run_room tape room (eqb-false room 65537 e)) (omega arith)
    by_tests true e true f = let r = eqb-true room 65537 e in rw (run_long tape room r (ltb-true 65536 (length tape) f)) (omega arith)
    by_tests true e false f =
        let r = eqb-true room 65537 e in
        let h = ltb-false 65536 (length tape) f in
        rw (run_whole tape room r h) (omega (arith, tape_fits tape))
