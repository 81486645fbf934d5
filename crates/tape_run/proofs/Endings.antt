-- How a run ended, told by its last answer.
-- Assumes nothing.
use mathlib.Core.Path.{◌≡◌, refl, sym, ap, ◌∙◌, subst}
use mathlib.Core.Bool.{Bool, true, false, true≢false, false≢true}
use mathlib.Core.List.{List, [], ◌∷◌, ◌++◌}
use mathlib.Core.Logic.{inl, inr, ⊎_elim, ◌↔◌}
use Prim.Native.Nat.{ℕ, ◌+◌, ◌-◌, ◌≤◌, ◌<◌}
use native.Mathlib.Omega.{arith}
use borrow.Author.Tests.{eqb-true, eqb-false}
use lib.Dec.{eqb}
use lib.ListN.{length, get_or, drop, length-append, length-drop}
use lib.Seq.{drop-append-le, drop-append-add}
use Rattle.forms.specs.Lists.{when}
use Rattle.forms.proofs.Booleans.{when_all}
use Rattle.tape_rules.specs.declared.Tape.{Tape}
use Rattle.tape_rules.specs.Steps.{Answer, ended, refuses, step}
use Rattle.tape_rules.proofs.Bounds.{step_bounded}
use Rattle.tape_rules.proofs.Ways.{Known, sets, maps, mixes, Unknown, keeps, keeps_not_eight, Way, over, empty, closed, unknown, cut, refused, set, mapped, mixed, way_of}
use Rattle.tape_rules.proofs.Accepted.{Short, nothing_left, cut_short, short_step, eight_iff, Closed, Ending, shut, short, ends_iff}
use Rattle.tape_rules.proofs.Front.{step_front}
use Rattle.tape_run.specs.Runs.{tape_steps, joined, tape_answers, last_number, last_answer, last_rest}
use Rattle.tape_run.proofs.Runs.{Walked, last, more, tape_walked, walked_once, last_rest_more}

-- ---- a step answered 8

-- it ends the tape, and writes one byte
eight_step : (t : Tape) (rest : List ℕ) → (step t rest 65).number ≡ 8 → step t rest 65 ≡ refuses (ended t) 8 (length rest)
eight_step t rest e = let h = (eight_iff t rest 65).0 e in short_step t rest h.1 h.2

eight_ends : (t : Tape) (rest : List ℕ) → (step t rest 65).number ≡ 8 → (step t rest 65).next.ended ≡ true
eight_ends t rest e = ap (λ (a : Answer). a.next.ended) (eight_step t rest e)

going_not_eight : (t : Tape) (rest : List ℕ) → (step t rest 65).next.ended ≡ false → (step t rest 65).number ≡ 8 → ⊥
going_not_eight t rest z e = true≢false (sym (eight_ends t rest e) ∙ z)

-- ---- the last number

known_some : {c w : ℕ} → Known c w → c ≡ 0 → ⊥
known_some (sets e _) z = omega arith
known_some (maps (inl e) _) z = omega arith
known_some (maps (inr e) _) z = omega arith
known_some (mixes e _) z = omega arith

known_unknown : {c w : ℕ} → Known c w → Unknown c → ⊥
known_unknown (sets e _) u = u.not1 e
known_unknown (maps (inl e) _) u = u.not3 e
known_unknown (maps (inr e) _) u = u.not4 e
known_unknown (mixes e _) u = u.not5 e

-- a rest that begins with 00 or an unknown command does not stop short of a whole one
short_open : {rest : List ℕ} → Short rest → Closed rest → ⊥
short_open (nothing_left l) c = omega (arith, c.some)
short_open (cut_short k _) c = ⊎_elim (known_some k) (known_unknown k) c.by

-- the number so far, after a step
abbrev after : ℕ → Answer → ℕ
after k a = when (eqb (length a.written) 0) k a.number

after_eight : (k : ℕ) (a : Answer) → (k ≡ 8 → ⊥) → after k a ≡ 8 → a.number ≡ 8
after_eight k a h = either (eqb (length a.written) 0)
  where
    either : (b : Bool) → when b k a.number ≡ 8 → a.number ≡ 8
    either true e = absurd (h e)
    either false e = e

eight_after : (t : Tape) (rest : List ℕ) (k : ℕ) → (step t rest 65).number ≡ 8 → after k (step t rest 65) ≡ 8
eight_after t rest k e = ap (λ (a : Answer). after k a) (eight_step t rest e)

walked_number : {t : Tape} {rest : List ℕ} {xs : List Answer} (k : ℕ) → (k ≡ 8 → ⊥) → Walked t rest xs → (last_number k xs ≡ 8) ↔ (Closed (last_rest rest xs) → ⊥)
unfolding last_number last_rest
walked_number k h (last {t} {rest} o e) = (
  λ z. short_open ((eight_iff t rest 65).0 (after_eight k (step t rest 65) h z)).2,
  λ f. ⊎_elim (λ z. absurd (true≢false (sym z ∙ o))) (λ z. eight_after t rest k (open_eight f z)) ((ends_iff t rest).0 e),
)
  where
    open_eight : (Closed rest → ⊥) → Ending rest → (step t rest 65).number ≡ 8
    open_eight f (shut c) = absurd (f c)
    open_eight f (short s) = (eight_iff t rest 65).1 (refl, o, s)
walked_number k h (more {t} {rest} o e w) =
    rw (last_rest_more (step t rest 65) rest w)
    (walked_number (after k (step t rest 65)) (λ z. going_not_eight t rest e (after_eight k (step t rest 65) h z)) w)

-- the last step that wrote has number 8 exactly when the run was not ended by a 00 or an unknown command
pub last_eight : (tape : List ℕ) → (last_answer tape ≡ 8) ↔ (Closed (last_rest tape (tape_steps tape)) → ⊥)
last_eight tape = walked_number 0 (λ e. omega arith) (tape_walked tape)

-- ---- ended well

-- a rest that begins with 00
pub record Begun (rest : List ℕ) : Type 0 where
  pub some : 0 < length rest
  pub zero : get_or rest 0 0 ≡ 0

-- a number that isn't 7 or 8
abbrev pub Neither : ℕ → Type 0
Neither k = (k ≡ 7 → ⊥) × (k ≡ 8 → ⊥)

keeps_neither : (k : ℕ) → keeps k ≡ true → Neither k
keeps_neither k e = (λ z. false≢true (ap keeps (sym z) ∙ e), keeps_not_eight k e)

-- a step that goes on has neither number
going_neither : {t : Tape} {rest : List ℕ} {a : Answer} → Way t rest a → a.next.ended ≡ false → Neither a.number
going_neither (over _) z = absurd (true≢false z)
going_neither (empty _ _) z = absurd (true≢false z)
going_neither (closed _ _) z = absurd (true≢false z)
going_neither (unknown _ _) z = absurd (true≢false z)
going_neither (cut _ _ _) z = absurd (true≢false z)
going_neither (refused r k _ _ _) z = keeps_neither r k
going_neither (set _ _ _ _) z = (λ e. omega arith, λ e. omega arith)
going_neither (mapped _ _ _ _) z = (λ e. omega arith, λ e. omega arith)
going_neither (mixed _ _ _) z = (λ e. omega arith, λ e. omega arith)

-- one that ends the tape leaves neither exactly if it begins with 00
way_well : {t : Tape} {rest : List ℕ} {a : Answer} (k : ℕ) → Neither k → t.ended ≡ false → a.next.ended ≡ true → Way t rest a → Begun rest ↔ Neither (after k a)
way_well k h o e (over z) = absurd (true≢false (sym z ∙ o))
way_well k h o e (empty _ l) = (λ b. let f : ⊥ = omega (arith, b.some) in absurd f, λ n. absurd (n.1 refl))
way_well k h o e (closed g z) = (λ b. h, λ n. record { some = g.some; zero = z })
way_well k h o e (unknown g u) = (λ b. absurd (u.not0 b.zero), λ n. absurd (n.0 refl))
way_well k h o e (cut g w l) = (λ b. absurd (known_some w b.zero), λ n. absurd (n.1 refl))
way_well k h o e (refused _ _ _ _ _) = absurd (true≢false (sym e ∙ o))
way_well k h o e (set _ _ _ _) = absurd (true≢false (sym e ∙ o))
way_well k h o e (mapped _ _ _ _) = absurd (true≢false (sym e ∙ o))
way_well k h o e (mixed _ _ _) = absurd (true≢false (sym e ∙ o))

after_neither : (k : ℕ) (a : Answer) → Neither k → Neither a.number → Neither (after k a)
after_neither k a h n = when_all Neither (eqb (length a.written) 0) (λ _. h) (λ _. n)

walked_well : {t : Tape} {rest : List ℕ} {xs : List Answer} (k : ℕ) → Neither k → Walked t rest xs → Begun (last_rest rest xs) ↔ Neither (last_number k xs)
unfolding last_number last_rest
walked_well k h (last {t} {rest} o e) = way_well k h o e (way_of t rest)
walked_well k h (more {t} {rest} o e w) =
    rw (last_rest_more (step t rest 65) rest w)
    (walked_well (after k (step t rest 65)) (after_neither k (step t rest 65) h (going_neither (way_of t rest) e)) w)

-- the last step begins with 00 exactly when the last one that wrote has neither number
pub last_well : (tape : List ℕ) → Begun (last_rest tape (tape_steps tape)) ↔ Neither (last_answer tape)
last_well tape = walked_well 0 (λ e. omega arith, λ e. omega arith) (tape_walked tape)

-- ---- the last byte

last_byte : {t : Tape} {rest : List ℕ} {xs : List Answer} (k : ℕ) → (k ≡ 8 → ⊥) → Walked t rest xs → last_number k xs ≡ 8 → drop (length (joined xs) - 1) (joined xs) ≡ 8 ∷ []
unfolding last_number joined
last_byte k h (last {t} {rest} _ _) z =
    ap (λ (a : Answer). drop (length (a.written ++ []) - 1) (a.written ++ [])) (eight_step t rest (after_eight k (step t rest 65) h z))
last_byte k h (more {t} {rest} {xs} _ e w) z =
    let a = step t rest 65 in
    let r = last_byte (after k a) (λ y. going_not_eight t rest e (after_eight k a h y)) w z in
    let l = sym (length-drop (length (joined xs) - 1) (joined xs)) ∙ ap length r in
    let i : length (a.written ++ joined xs) - 1 ≡ length a.written + (length (joined xs) - 1) = omega (arith, length-append a.written (joined xs)) in
    ap (λ (i : ℕ). drop i (a.written ++ joined xs)) i ∙ drop-append-add a.written (joined xs) (length (joined xs) - 1) ∙ r

-- the answers end with that 8
pub eight_trails : (tape : List ℕ) → last_answer tape ≡ 8 → drop (length (tape_answers tape) - 1) (tape_answers tape) ≡ 8 ∷ []
unfolding tape_answers
eight_trails tape = last_byte 0 (λ e. omega arith) (tape_walked tape)

-- ---- a copy of a tape

last_number_other : {t : Tape} {rest : List ℕ} {xs : List Answer} (k : ℕ) → Walked t rest xs → (last_number k xs ≡ 8 → ⊥) → (step t rest 65).number ≡ 8 → ⊥
unfolding last_number
last_number_other k (last {t} {rest} _ _) h e = h (eight_after t rest k e)
last_number_other k (more {t} {rest} _ z _) h e = going_not_eight t rest z e

-- what is left behind a step, with more bytes behind it
left_front : (t : Tape) (rest behind : List ℕ) → drop (step t rest 65).taken (rest ++ behind) ≡ drop (step t rest 65).taken rest ++ behind
left_front t rest behind = drop-append-le (step t rest 65).taken rest behind (step_bounded t rest 65).within

walked_front : {t : Tape} {rest : List ℕ} {xs : List Answer} (k : ℕ) (behind : List ℕ) → Walked t rest xs → (last_number k xs ≡ 8 → ⊥) → Walked t (rest ++ behind) xs
unfolding last_number
walked_front k behind (last {t} {rest} o e) h =
    let p = step_front t rest behind 65 (last_number_other k (last o e) h) in
    subst (λ (a : Answer). Walked t (rest ++ behind) (a ∷ [])) p (last o (ap (λ (a : Answer). a.next.ended) p ∙ e))
walked_front k behind (more {t} {rest} {xs} o e w) h =
    let p = step_front t rest behind 65 (going_not_eight t rest e) in
    let v = subst (λ (x : List ℕ). Walked (step t rest 65).next x xs) (sym (left_front t rest behind)) (walked_front (after k (step t rest 65)) behind w h) in
    subst (λ (a : Answer). Walked t (rest ++ behind) (a ∷ xs)) p
    (more o (ap (λ (a : Answer). a.next.ended) p ∙ e) (subst (λ (a : Answer). Walked a.next (drop a.taken (rest ++ behind)) xs) (sym p) v))

-- a copy whose last answer isn't 8 answers as the tape that it was copied from, whatever is missing at its end
pub copy_whole : (copy missing : List ℕ) → (last_answer copy ≡ 8 → ⊥) → tape_steps (copy ++ missing) ≡ tape_steps copy
copy_whole copy missing h = walked_once (tape_walked (copy ++ missing)) (walked_front 0 missing (tape_walked copy) h)

last_rest_front : {t : Tape} {rest : List ℕ} {xs : List Answer} (behind : List ℕ) → Walked t rest xs → last_rest (rest ++ behind) xs ≡ last_rest rest xs ++ behind
unfolding last_rest
last_rest_front behind (last _ _) = refl
last_rest_front behind (more {t} {rest} {xs} _ _ w) =
    last_rest_more (step t rest 65) (rest ++ behind) w ∙ ap (λ (x : List ℕ). last_rest x xs) (left_front t rest behind)
    ∙ last_rest_front behind w ∙ ap (λ (x : List ℕ). x ++ behind) (sym (last_rest_more (step t rest 65) rest w))

-- a copy without the command at which the tape's run ends is told by an 8
pub copy_short : (copy missing : List ℕ) → length (last_rest (copy ++ missing) (tape_steps (copy ++ missing))) ≤ length missing → last_answer copy ≡ 8
copy_short copy missing h = either (eqb (last_answer copy) 8) refl
  where
    either : (b : Bool) → eqb (last_answer copy) 8 ≡ b → last_answer copy ≡ 8
    either true e = eqb-true _ 8 e
    either false e =
        let p = copy_whole copy missing (eqb-false _ 8 e) in
        let q : last_rest (copy ++ missing) (tape_steps (copy ++ missing)) ≡ last_rest copy (tape_steps copy) ++ missing = ap (last_rest (copy ++ missing)) p ∙ last_rest_front missing (tape_walked copy) in
        let l = ap length q ∙ length-append (last_rest copy (tape_steps copy)) missing in
        (last_eight copy).1 (short_open (nothing_left (omega arith)))

-- ---- one 8

abbrev head_of : Answer → List Answer → Answer
head_of d [] = d
head_of d (a ∷ _) = a

module _ (a : Answer) (behind : List Answer) (eight : a.number ≡ 8) where
  walked_one : {t : Tape} {rest : List ℕ} {xs : List Answer} → Walked t rest xs → (before : List Answer) → xs ≡ before ++ (a ∷ behind) → (a.written ≡ 8 ∷ []) × (behind ≡ [])
  walked_one (last {t} {rest} _ _) [] e =
      let p : step t rest 65 ≡ a = ap (head_of a) e in
      (ap (λ (x : Answer). x.written) (sym p ∙ eight_step t rest (ap (λ (x : Answer). x.number) p ∙ eight)), sym (ap (drop 1) e))
  walked_one (last _ _) (b ∷ before) e = let f : ⊥ = omega (arith, ap length e, length-append before (a ∷ behind)) in absurd f
  walked_one (more {t} {rest} _ z _) [] e =
      let p : step t rest 65 ≡ a = ap (head_of a) e in
      absurd (going_not_eight t rest z (ap (λ (x : Answer). x.number) p ∙ eight))
  walked_one (more _ _ w) (b ∷ before) e = walked_one w before (ap (drop 1) e)

-- a step answered 8 writes that one byte and is the last
pub eight_once : (tape : List ℕ) (before : List Answer) (a : Answer) (behind : List Answer) → tape_steps tape ≡ before ++ (a ∷ behind) → a.number ≡ 8
    → (a.written ≡ 8 ∷ []) × (behind ≡ [])
eight_once tape before a behind e eight = walked_one a behind eight (tape_walked tape) before e
