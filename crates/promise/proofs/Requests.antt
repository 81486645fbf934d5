-- What the change requests ask for holds.
-- Assumes nothing.
use mathlib.Core.Path.{◌≡◌, refl, sym, ap, ap₂, ◌∙◌, fun_ext}
use mathlib.Core.Bool.{Bool, true, false, false≢true}
use mathlib.Core.Logic.{◌⊎◌, inl, inr, ⊎_map, ◌↔◌}
use mathlib.Core.List.{List, [], ◌∷◌}
use Prim.Native.Nat.{ℕ, zero, suc, ◌-◌, ◌≤◌, ◌<◌}
use native.Mathlib.Omega.{arith}
use borrow.Author.Tests.{eqb-true, eqb-false}
use lib.Dec.{eqb, leb, leb→le}
use lib.ListN.{length, get_or, take, drop, replicate}
use lib.Seq.{take-append_seam}
use Rattle.forms.specs.Lists.{tabulate, xor_sum, iterate, over}
use Rattle.forms.specs.Words.{byte, join, each_byte, words, bytes}
use Rattle.forms.specs.Refusals.{outcome, first_of}
use Rattle.forms.proofs.Refusals.{unless_three}
use Rattle.forms.proofs.Tests.{tested_at}
use Rattle.forms.proofs.Xor.{additive_zero}
use Rattle.forms.proofs.Twice.{first_passed}
use Rattle.field.specs.Field.{times_x, shift, mul, power}
use Rattle.field.specs.Substitution.{sub}
use Rattle.field.specs.Mixing.{element, matrix, dot, mix_by, mix, product, row_sum}
use Rattle.field.specs.Merged.{merged}
use Rattle.field.specs.Published.{table1, row}
use Rattle.field.proofs.Mixing.{mix_xor, mix_rotl, mix_mix}
use Rattle.field.proofs.Eight.{mix_eightfold}
use Rattle.field.proofs.Substitution.{table1_undo}
use Rattle.arithmetic.specs.BitLength.{bit_length}
use Rattle.arithmetic.proofs.BitLength.{bit_length_leading, bit_length_iff}
use Rattle.rows.specs.declared.Mixed.{Mixed}
use Rattle.rows.specs.declared.Inverted.{Inverted}
use Rattle.rows.specs.Rows.{row_refusal, table_refusal, mixed}
use Rattle.rows.specs.Inverse.{constant_row, neutral, inverse_row, inverted}
use Rattle.rows.proofs.Rows.{row_iff, row_number_lem, table_zero, table_five, table_iff, mixed_done, mixed_refused, row_accepted, lookup_made}
use Rattle.rows.proofs.Ring.{product_comm, product_assoc, mix_order, mix_neutral, product_neutral}
use Rattle.rows.proofs.Inverses.{inverse_row_lem, product_inverse, only_inverse, no_inverse, mix_back, mix_forth, neutral_accepted, inverse_accepted, product_accepted, product_left, product_right, inverted_done, inverted_refused, published_inverse}
use Rattle.judge.proofs.Verdicts.{one_verdict, zero_row_short, neutral_short, good_accepted, nine_at_most}
use Rattle.labyrinth.specs.Blocks.{each}
use Rattle.labyrinth.specs.declared.WorkingKey.{WorkingKey}
use Rattle.labyrinth.specs.Cipher.{Parts, article}
use Rattle.labyrinth.specs.Keys.{E}
use Rattle.labyrinth.specs.Refusals.{legal, legal_length, under_key}
use Rattle.sets.specs.declared.Store.{Store}
use Rattle.sets.specs.Sets.{loaded, parts_in}
use Rattle.labyrinth.proofs.Agree.{E_used}
use Rattle.modes.specs.Cmac.{K1, K2, tag}
use Rattle.modes.specs.Refusals.{cmac_refusal}
use Rattle.modes.proofs.Maps.{keeps_one}
use Rattle.modes.proofs.Cmac.{length_doubled, bytes_doubled, valid_iff}
use Rattle.modes.proofs.Doubling.{doubled_remainder, only_remainder}
use Rattle.modes.proofs.Refusals.{cmac_number, cmac_taken}
use Rattle.modes.proofs.Used.{tag_used}
use Rattle.cmac.specs.declared.Verified.{Verified}
use Rattle.cmac.specs.Verification.{verification}
use Rattle.cmac.proofs.Tags.{verification_number, refused_no}
use Rattle.conversions.proofs.Rows.{converted}
use Rattle.operands.specs.Operands.{zeros}
use Rattle.tape_rules.specs.Steps.{key_refusal, set_key, map_refusal, map_block, mix_word, command, step}
use Rattle.tape_rules.specs.Plain.{UnknownCommand}
use Rattle.tape_rules.proofs.Cases.{gives, step_room, step_ended, step_empty}
use Rattle.tape_rules.proofs.Accepted.{Closed}
use Rattle.tape_run.specs.declared.Answered.{Answered}
use Rattle.tape_run.specs.Runs.{steps, tape_steps, joined, tape_answers, last_rest, Ran, run}
use Rattle.tape_run.proofs.Runs.{gives as run-gives, run_iff, run_whole}
use Rattle.tape_run.proofs.Endings.{last_eight, Begun, last_well, eight_trails, eight_once, copy_whole, copy_short}
use Rattle.promise.specs.Demands.{SameUsed, WorksTape}
use Rattle.promise.specs.Requests.{MasksDoubled, OneRemainder, MakesTag, VerifiesTag, YesExactly, TagsTaken, AnswersTag, AnswersVerifying, EmptyRest, EndedState, FiveFirst, example, Gets, ExampleKept, EmptyTape, TellsItsEnd, OneEight, NothingLost, ShortTold, ShortCoefficients, EndsAfterHighestOne, TurnsNamed, MakesTable, MakesTheTableLent, by, EightTimesByRow, PublishedPower, XorByRow, RotatedByRow, LooksUp, MixesBy, AnswersMixing, TableNumber, AnswersTable, OneAfterAnother, OneAnswerAfterAnother, AcceptedTogether, OrderFree, AnswersInverse, OneInverse, PublishedInverse, GroupingFree, ChangesNoWord, ChangesNoRow, WordBack, Converts, OneVerdict, ZeroRowShort, NeutralShort, GoodAccepted, NineAtMost}
use Rattle.promise.proofs.Demands.{kept, UnderUsed, under_used}

-- ---- Job 1

pub masks_doubled : MasksDoubled
unfolding K1 K2
masks_doubled ws =
    let k = keeps_one article 1 ws refl in (
      doubled_remainder (E article 1 ws (replicate 16 0)) (k.len (replicate 16 0)) (k.bytes (replicate 16 0)),
      doubled_remainder (K1 (E article 1 ws)) (length_doubled _) (bytes_doubled _),
    )

pub one_remainder : OneRemainder
one_remainder = only_remainder

-- by any parts, where a number of 0 means that the tag is taken
pub yes_by : (p : Parts) (k : WorkingKey) (message given : List ℕ) (r : ℕ) {answer : Verified} → (r ≡ 0 → cmac_refusal k.n (length given) ≡ 0)
    → answer ≡ verification (E p k.n k.words) message given r → (answer.yes ≡ true) ↔ ((answer.number ≡ 0) × (given ≡ tag (E p k.n k.words) (length given) message))
unfolding verification
yes_by p k message given r taken h = rw h (by_number r taken)
  where
    e : List ℕ → List ℕ
    e = E p k.n k.words

    by_number : (r : ℕ) → (r ≡ 0 → cmac_refusal k.n (length given) ≡ 0)
        → ((verification e message given r).yes ≡ true) ↔ (((verification e message given r).number ≡ 0) × (given ≡ tag e (length given) message))
    by_number zero taken =
        let t = cmac_taken k.n (length given) refl (taken refl) in
        let v = valid_iff e (keeps_one p k.n k.words t.one) message given t.top in
        (λ y. (refl, v.0 y), λ h. v.1 h.1)
    by_number (suc r) taken = (λ y. absurd (false≢true y), λ h. let f : ⊥ = omega (arith, h.0) in absurd f)

pub yes_exactly : (k : WorkingKey) (message given : List ℕ) {answer : Verified} → VerifiesTag k message given answer → YesExactly k message given answer
yes_exactly k message given h = yes_by article k message given (cmac_refusal k.n (length given)) (λ z. z) h

pub tags_taken : TagsTaken
tags_taken n size number u =
    let all = unless_three u in
    (λ z. let h = all.0 z in (h.1, h.2.0, h.2.1), λ h. all.1 (inl h.0, h.0, (h.1, h.2)))

pub answers_tag : (k : WorkingKey) (message : List ℕ) {number : ℕ} {before after : List ℕ} → MakesTag k message number before after → AnswersTag k number before after
answers_tag k message {number} {before} h = (cmac_number k.n (length before) h.0, kept number (tag (E article k.n k.words) (length before) message) before h.1)

pub answers_verifying : (k : WorkingKey) (message given : List ℕ) {answer : Verified} → VerifiesTag k message given answer → AnswersVerifying k given answer
answers_verifying k message given {answer} h =
    let e = E article k.n k.words in
    let r = cmac_refusal k.n (length given) in
    let p : answer.number ≡ r = ap (λ (v : Verified). v.number) h ∙ verification_number e message given r in
    (cmac_number k.n (length given) p, λ z. ap (λ (v : Verified). v.yes) (h ∙ sym (refused_no e message given r refl (λ y. z (p ∙ y)))))

-- document 01: later answers depend on the used words only, for any set
pub tags_used : UnderUsed {R = List ℕ × List ℕ} (λ p n ws r. cmac_refusal n (length r.1)) (λ p n ws r. tag (E p n ws) (length r.1) r.0) (λ r. r.1)
tags_used = under_used _ _ _ (λ p n ws vs s r. tag_used p n ws vs s (length r.1) r.0)

-- what verifying says, by n and the block map
abbrev pub said : Store × ℕ × (List ℕ × List ℕ) → ℕ → (List ℕ → List ℕ) → Verified
said g n e = verification e g.2.0 g.2.1 (under_key n (loaded g.0 g.1) (cmac_refusal n (length g.2.1)))

pub verifies_used : (k j : WorkingKey) (g g' : Store × ℕ × (List ℕ × List ℕ)) (y z : Verified) → SameUsed k j → g ≡ g' → y ≡ said g k.n (E (parts_in g.0 g.1) k.n k.words)
    → z ≡ said g' j.n (E (parts_in g'.0 g'.1) j.n j.words) → y ≡ z
verifies_used k j g g' y z s p a b =
    a
    ∙ ap (said g k.n) (fun_ext (E_used (parts_in g.0 g.1) k.n k.words j.words s.1))
    ∙ ap (λ (n : ℕ). said g n (E (parts_in g.0 g.1) n j.words)) s.0
    ∙ ap (λ (x : Store × ℕ × (List ℕ × List ℕ)). said x j.n (E (parts_in x.0 x.1) j.n j.words)) p ∙ sym b

-- ---- Job 2

pub empty_rest : EmptyRest
empty_rest t answer before after h l e = gives before (sym (step_empty t [] (length before) l e refl)) h

pub ended_state : EndedState
ended_state t rest answer before after h l e = gives before (sym (step_ended t rest (length before) l e)) h

pub five_first : FiveFirst
five_first t rest answer before after h l = gives before (sym (step_room t rest (length before) l)) h

gets : (tape bytes : List ℕ) → length tape ≤ 65536 → tape_answers tape ≡ bytes → Gets tape bytes
gets tape bytes l e answer before after h r =
    run-gives before (sym (run_whole tape (length before) r l ∙ ap (λ (x : List ℕ). record { number = 0; written = x }) e)) h

pub example_kept : ExampleKept
unfolding tape_answers tape_steps steps joined step command set_key key_refusal map_block map_refusal mix_word zeros legal legal_length tabulate xor_sum byte join times_x shift mul element matrix dot mix_by mix row each words bytes
example_kept = gets example _ (omega arith) refl

pub empty_tape : EmptyTape
unfolding tape_answers tape_steps steps joined step
empty_tape = gets [] _ (omega arith) refl

-- the first byte of a rest
first_of_lem : (rest : List ℕ) {c : ℕ} → take 1 rest ≡ c ∷ [] → (0 < length rest) × (get_or rest 0 0 ≡ c)
first_of_lem [] e = let f : ⊥ = omega (arith, ap length e) in absurd f
first_of_lem (b ∷ rest) e = (omega arith, ap (λ (x : List ℕ). get_or x 0 0) e)

of_first : (rest : List ℕ) {c : ℕ} → 0 < length rest → get_or rest 0 0 ≡ c → take 1 rest ≡ c ∷ []
of_first [] h e = let f : ⊥ = omega arith in absurd f
of_first (b ∷ rest) h e = ap (λ (x : ℕ). x ∷ []) e

closed_by : (rest : List ℕ) → (Closed rest → ⊥) ↔ ((c : ℕ) → take 1 rest ≡ c ∷ [] → (c ≡ 0) ⊎ UnknownCommand c → ⊥)
closed_by rest = (λ f c e o. f (closed e o), back)
  where
    closed : {c : ℕ} → take 1 rest ≡ c ∷ [] → (c ≡ 0) ⊎ UnknownCommand c → Closed rest
    closed e o =
        let b = first_of_lem rest e in
        record {
          some = b.0;
          by = ⊎_map (λ z. b.1 ∙ z) (λ u. record { not0 = λ z. u.0 (sym b.1 ∙ z); not1 = λ z. u.1 (sym b.1 ∙ z); not3 = λ z. u.2 (sym b.1 ∙ z); not4 = λ z. u.3 (sym b.1 ∙ z); not5 = λ z. u.4 (sym b.1 ∙ z) }) o;
        }

    back : ((c : ℕ) → take 1 rest ≡ c ∷ [] → (c ≡ 0) ⊎ UnknownCommand c → ⊥) → Closed rest → ⊥
    back f c = f (get_or rest 0 0) (of_first rest c.some refl) (⊎_map (λ z. z) (λ u. (u.not0, u.not1, u.not3, u.not4, u.not5)) c.by)

begun_by : (rest : List ℕ) → Begun rest ↔ (take 1 rest ≡ 0 ∷ [])
begun_by rest = (λ b. of_first rest b.some b.zero, λ e. let b = first_of_lem rest e in record { some = b.0; zero = b.1 })

pub tells_its_end : (tape before : List ℕ) {answer : Answered} {after : List ℕ} → WorksTape tape answer before after → TellsItsEnd tape answer after
unfolding tape_answers
tells_its_end tape before {answer} {after} h z =
    let n : answer.number ≡ (run tape (length before)).number = ap (λ (x : Answered). x.number) h.0 in
    let t = (run_iff tape (length before)).0 (sym n ∙ z) in
    let q = run_whole tape (length before) t.0 t.1 in
    let m : answer.length ≡ length (tape_answers tape) = ap (λ (x : Answered). x.length) h.0 ∙ ap (λ (x : Ran). length x.written) q in
    let w : take answer.length after ≡ tape_answers tape
    = ap₂ take m (h.1 ∙ ap (λ (x : Ran). over x.written before) q) ∙ take-append_seam (tape_answers tape) _ in
    let last = last_eight tape in
    let well = last_well tape in
    let c = closed_by (last_rest tape (tape_steps tape)) in
    let b = begun_by (last_rest tape (tape_steps tape)) in (
      w,
      (λ e. well.0 (b.1 e), λ e. b.0 (well.1 e)),
      (λ e. c.0 (last.0 e), λ f. last.1 (c.1 f)),
      λ e. ap₂ (λ (i : ℕ) (x : List ℕ). drop (i - 1) x) m w ∙ eight_trails tape e,
    )

pub one_eight : OneEight
one_eight = eight_once

pub nothing_lost : NothingLost
nothing_lost = copy_whole

pub short_told : ShortTold
short_told = copy_short

-- ---- Job 3

pub short_coefficients : ShortCoefficients
unfolding row bit_length
short_coefficients i h = leb→le (bit_length 8 (get_or row i 0)) 5 (tested_at 8 (λ i. leb (bit_length 8 (get_or row i 0)) 5) tt i h)

pub ends_after_highest_one : EndsAfterHighestOne
ends_after_highest_one b h = (sym (bit_length_leading 8 b h), bit_length_iff 8 b h)

pub turns_named : TurnsNamed
unfolding bit_length
turns_named = (refl, refl, refl)

-- ---- Job 4

-- an accepted row mixes as the definition says
by_mix : (g : List ℕ) → row_refusal g ≡ 0 → by g ≡ mix g
by_mix g e = fun_ext (λ w. ap (λ (m : Mixed). m.word) (mixed_done g w e))

pub eight_times_by_row : EightTimesByRow
eight_times_by_row g e w = ap (λ (f : ℕ → ℕ). iterate 8 f w) (by_mix g e) ∙ mix_eightfold g w

pub published_power : PublishedPower
unfolding row row_sum xor_sum times_x shift mul power
published_power = refl

pub xor_by_row : XorByRow
xor_by_row g e a b = rw (by_mix g e) (mix_xor g a b)

pub rotated_by_row : RotatedByRow
rotated_by_row g e w k hw hk = rw (by_mix g e) (mix_rotl g w k hw hk)

pub looks_up_lem : (g before after : List ℕ) {answer : ℕ} → MakesTable g answer before after → LooksUp g answer after
looks_up_lem g before after h z w =
    let e : row_refusal g ≡ 0 = (row_iff g).1 ((table_iff g (length before)).0 (sym h.0 ∙ z)).0 in
    lookup_made g table1 table1_undo.there (h.1 ∙ ap (λ (r : ℕ). outcome r (merged g table1) before) z) w ∙ sym (ap (λ (f : ℕ → ℕ). f (each_byte (sub table1) w)) (by_mix g e))

pub published_table : (g before after : List ℕ) {answer : ℕ} {lent : List ℕ} → MakesTable g answer before after → lent ≡ merged row table1
    → MakesTheTableLent g before after lent
published_table g before after h p r l =
    let e : table_refusal g (length before) ≡ 0 = ap (λ (x : List ℕ). table_refusal x (length before)) r ∙ (table_iff row (length before)).1 (row_accepted, l) in
    h.1 ∙ ap (λ (n : ℕ). outcome n (merged g table1) before) (h.0 ∙ e) ∙ ap (λ (x : List ℕ). merged x table1) r ∙ sym p

pub answers_mixing : (g : List ℕ) (w : ℕ) {answer : Mixed} → MixesBy g w answer → AnswersMixing g w answer
answers_mixing g w h = rw h (by_row (row_number_lem g refl))
  where
    by_row : ((row_sum g ≡ 0) × (row_refusal g ≡ 13)) ⊎ ((row_sum g ≡ 0 → ⊥) × (row_refusal g ≡ 0)) → AnswersMixing g w (mixed g w (row_refusal g))
    by_row (inl u) =
        let m = mixed_refused g w (row_refusal g) (λ e. (row_iff g).0 e u.0) in
        inl (ap (λ (a : Mixed). a.number) m ∙ u.1, ap (λ (a : Mixed). a.word) m, u.0)
    by_row (inr u) = let m = mixed_done g w u.1 in inr (ap (λ (a : Mixed). a.number) m, ap (λ (a : Mixed). a.word) m, u.0)

table_number : (g : List ℕ) (room : ℕ) → TableNumber g room (table_refusal g room)
table_number g room = go (eqb (row_sum g) 0) (eqb room 256) refl refl
  where
    go : (b c : Bool) → eqb (row_sum g) 0 ≡ b → eqb room 256 ≡ c → TableNumber g room (table_refusal g room)
    go true c p q = let z : row_sum g ≡ 0 = eqb-true (row_sum g) 0 p in inl (table_zero g room z, z)
    go false false p q =
        let h : row_sum g ≡ 0 → ⊥ = eqb-false (row_sum g) 0 p in
        let n : room ≡ 256 → ⊥ = eqb-false room 256 q in
        inr (inl (table_five g room h n, h, n))
    go false true p q =
        let h : row_sum g ≡ 0 → ⊥ = eqb-false (row_sum g) 0 p in
        let e : room ≡ 256 = eqb-true room 256 q in
        inr (inr ((table_iff g room).1 (h, e), h, e))

pub answers_table : (g : List ℕ) {number : ℕ} {before after : List ℕ} → MakesTable g number before after → AnswersTable g number before after
answers_table g {number} {before} h = (rw h.0 (table_number g (length before)), kept number (merged g table1) before h.1)

-- ---- Job 5

-- a refused row, and the zero word, answer the zero word
by_none : (g : List ℕ) → row_sum g ≡ 0 → (w : ℕ) → by g w ≡ 0
by_none g z w = ap (λ (m : Mixed). m.word) (mixed_refused g w (row_refusal g) (λ e. (row_iff g).0 e z))

by_some : (g : List ℕ) → (row_sum g ≡ 0 → ⊥) → (w : ℕ) → by g w ≡ mix g w
by_some g h w = ap (λ (f : ℕ → ℕ). f w) (by_mix g ((row_iff g).1 h))

by_zero : (g : List ℕ) → by g 0 ≡ 0
by_zero g = go (eqb (row_sum g) 0) refl
  where
    go : (b : Bool) → eqb (row_sum g) 0 ≡ b → by g 0 ≡ 0
    go true p = by_none g (eqb-true (row_sum g) 0 p) 0
    go false p = by_some g (eqb-false (row_sum g) 0 p) 0 ∙ additive_zero (mix g) (mix_xor g)

pub one_after_another : OneAfterAnother
one_after_another = mix_mix

pub one_answer_after_another : OneAnswerAfterAnother
one_answer_after_another g h r s w = go (eqb (row_sum g) 0) (eqb (row_sum h) 0) refl refl
  where
    go : (b c : Bool) → eqb (row_sum g) 0 ≡ b → eqb (row_sum h) 0 ≡ c → by h (by g w) ≡ by (product g h) w
    go true c p q =
        let z : row_sum g ≡ 0 = eqb-true (row_sum g) 0 p in
        ap (by h) (by_none g z w) ∙ by_zero h ∙ sym (by_none (product g h) (product_left g h z) w)
    go false true p q =
        let z : row_sum h ≡ 0 = eqb-true (row_sum h) 0 q in
        by_none h z (by g w) ∙ sym (by_none (product g h) (product_right g h z) w)
    go false false p q =
        let a : row_sum g ≡ 0 → ⊥ = eqb-false (row_sum g) 0 p in
        let b : row_sum h ≡ 0 → ⊥ = eqb-false (row_sum h) 0 q in
        by_some h b (by g w) ∙ ap (mix h) (by_some g a w) ∙ mix_mix g h w ∙ sym (by_some (product g h) (product_accepted g h r s a b) w)

pub accepted_together : AcceptedTogether
accepted_together g h r s = (
  λ e. let a = (row_iff (product g h)).0 e in ((row_iff g).1 (λ z. a (product_left g h z)), (row_iff h).1 (λ z. a (product_right g h z))),
  λ p. (row_iff (product g h)).1 (product_accepted g h r s ((row_iff g).0 p.0) ((row_iff h).0 p.1)),
)

pub order_free : OrderFree
order_free g h = (product_comm g h, mix_order g h)

pub grouping_free : GroupingFree
grouping_free = product_assoc

pub changes_no_word : ChangesNoWord
changes_no_word = (unfold neutral constant_row in refl, λ w l. by_some neutral neutral_accepted w ∙ mix_neutral w l)

pub changes_no_row : ChangesNoRow
changes_no_row g r = (product_neutral g r, product_comm neutral g ∙ product_neutral g r)

pub one_inverse : OneInverse
one_inverse g answer r q = rw q (by_row (row_number_lem g refl))
  where
    by_row : ((row_sum g ≡ 0) × (row_refusal g ≡ 13)) ⊎ ((row_sum g ≡ 0 → ⊥) × (row_refusal g ≡ 0)) → AnswersInverse g (inverted g (row_refusal g))
    by_row (inl u) =
        let k = inverted_refused g (row_refusal g) (λ e. (row_iff g).0 e u.0) in
        inl (ap (λ (a : Inverted). a.number) k ∙ u.1, ap (λ (a : Inverted). a.row) k, u.0, λ h i. no_inverse g h u.0 i.1)
    by_row (inr u) =
        let k = inverted_done g u.1 in
        let e : (inverted g (row_refusal g)).row ≡ inverse_row g = ap (λ (a : Inverted). a.row) k in
        inr (
          ap (λ (a : Inverted). a.number) k,
          rw e (inverse_row_lem g, product_inverse g r u.0),
          u.0,
          λ x i. only_inverse g r u.0 x i.0 i.1 ∙ sym e,
        )

pub the_published_inverse : PublishedInverse
the_published_inverse = published_inverse

-- what is answered for an accepted row
inverse_answered : (g : List ℕ) → row_refusal g ≡ 0 → (inverted g (row_refusal g)).row ≡ inverse_row g
inverse_answered g e = ap (λ (a : Inverted). a.row) (inverted_done g e)

pub word_back : WordBack
word_back g r e w l =
    let h = (row_iff g).0 e in
    let i = inverse_accepted g r h in
    rw (inverse_answered g e) (
      by_some (inverse_row g) i (by g w) ∙ ap (mix (inverse_row g)) (by_some g h w) ∙ mix_back g r h w l,
      by_some g h (by (inverse_row g) w) ∙ ap (mix g) (by_some (inverse_row g) i w) ∙ mix_forth g r h w l,
    )

pub converts : Converts
converts g h r s e w l =
    let k = (inverted g (row_refusal g)).row in
    let one : by h (by k (by g w)) ≡ by h w = ap (by h) (word_back g r e w l).0 in
    let at_once : mixed (product k h) (by g w) (row_refusal (product k h)) ≡ mixed h w (first_of (row_refusal g) (row_refusal h)) = converted g h w r s l in
    (one, ap (λ (m : Mixed). m.word) at_once ∙ ap (λ (n : ℕ). (mixed h w n).word) (sym (first_passed (row_refusal g) (row_refusal h) e)))

-- ---- Job 6

pub one_verdict_only : OneVerdict
one_verdict_only = one_verdict

pub the_zero_row_short : ZeroRowShort
the_zero_row_short = zero_row_short

pub the_neutral_row_short : NeutralShort
the_neutral_row_short = neutral_short

pub good_row_accepted : GoodAccepted
good_row_accepted g r h = (row_iff g).1 (good_accepted g r h)

pub no_more_than_nine : NineAtMost
no_more_than_nine = nine_at_most
