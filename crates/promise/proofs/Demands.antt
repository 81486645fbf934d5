-- The demands hold: each statement, and the law that says it. What is stated of an operation's answer follows from what its contract says.
-- Assumes nothing.
use mathlib.Core.Path.{◌≡◌, refl, sym, ap, ap₂, ◌∙◌, subst}
use mathlib.Core.List.{List, []}
use Prim.Native.Nat.{ℕ, zero, suc, ◌*◌, ◌≤◌}
use native.Mathlib.Omega.{arith}
use lib.ListN.{length}
use Rattle.forms.specs.Lists.{over}
use Rattle.forms.specs.Refusals.{outcome}
use Rattle.forms.proofs.Refusals.{refused_keeps, unless_three, unless_four}
use Rattle.field.specs.Published.{row}
use Rattle.field.proofs.Substitution.{table1_undo}
use Rattle.field.proofs.Mixing.{mix_xor, mix_rotl}
use Rattle.field.proofs.Eight.{mix_row_eight}
use Rattle.labyrinth.specs.declared.WorkingKey.{WorkingKey}
use Rattle.labyrinth.specs.declared.Expanded.{Expanded}
use Rattle.labyrinth.specs.Cipher.{Parts, article}
use Rattle.labyrinth.specs.Keys.{E, U, expanded_words}
use Rattle.labyrinth.specs.Refusals.{padded, block_refusal, expand_refusal, under_key, expansion}
use Rattle.labyrinth.specs.Working.{Taken}
use Rattle.sets.specs.declared.Store.{Store}
use Rattle.sets.specs.Sets.{loaded, parts_in}
use Rattle.labyrinth.proofs.Refusals.{block_number, block_iff, expand_number}
use Rattle.labyrinth.proofs.Expansion.{expansion_number, expansion_blank, length_expanded_words, length_padded, padded_zero}
use Rattle.labyrinth.proofs.Undo.{U_E, E_U}
use Rattle.labyrinth.proofs.Agree.{article_sound, SameUsed as Used, E_used, U_used}
use Rattle.modes.specs.Cbc.{cbc_seal, cbc_open}
use Rattle.modes.specs.Ctr.{ctr}
use Rattle.modes.specs.Refusals.{cbc_refusal, ctr_refusal}
use Rattle.modes.proofs.Maps.{keeps_E, keeps_U}
use Rattle.modes.proofs.Cbc.{length_seal, seal_block, length_open, open_block}
use Rattle.modes.proofs.Ctr.{length_ctr, ctr_block}
use Rattle.modes.proofs.Refusals.{cbc_number, cbc_iff, cbc_taken, ctr_number, ctr_iff, ctr_taken}
use Rattle.modes.proofs.Again.{cbc_again, ctr_again}
use Rattle.modes.proofs.Used.{seal_used, open_used, ctr_used}
use Rattle.tape_rules.specs.declared.Tape.{Tape}
use Rattle.tape_rules.specs.declared.Stepped.{Stepped}
use Rattle.tape_rules.specs.Steps.{step}
use Rattle.tape_rules.specs.Steps as tape
use Rattle.tape_rules.proofs.Plain.{step_says}
use Rattle.tape_rules.proofs.Used.{Alike, step_used}
use Rattle.tape_run.specs.declared.Answered.{Answered}
use Rattle.tape_run.specs.Runs.{Ran, returned}
use Rattle.tape_run.proofs.Runs.{steps_used, run_says}
use Rattle.promise.specs.Demands.{KeysTaken, BlocksTaken, CbcTaken, CtrTaken, Kept, AnswersKey, AnswersBlock, AnswersCbc, AnswersCtr, AnswersStep, AnswersTape, Expands, Maps, SealsCbc, OpensCbc, RunsCtr, SealedBy, OpenedBy, CountedBy, SealedByBlocks, OpenedByBlocks, CountedByBlocks, SubstitutionUndone, Steps, WorksTape, UnusedWordsZero, SameUsed, AlikeStates, AlikeAnswers, TapesOfUsedWords, EAndUUndo, BlocksComeBack, CbcOpensAgain, CtrOpensAgain, CbcCallsOpen, CtrCallsOpen, MixingOfXor, MixingRotated, MixingEightTimes}

-- ---- demand 1

pub keys_taken : KeysTaken
keys_taken n l key number u = unless_three u

pub blocks_taken : BlocksTaken
blocks_taken n source destination number u = unless_three u

pub cbc_runs_taken : CbcTaken
cbc_runs_taken n start source destination number u = unless_four u

pub ctr_runs_taken : CtrTaken
ctr_runs_taken n start source destination number u = unless_three u

-- what `outcome` leaves after a refusal
pub kept : (number : ℕ) (result before : List ℕ) {after : List ℕ} → after ≡ outcome number result before → Kept number before after
kept number result before e h = e ∙ sym (refused_keeps number result before h)

pub answers_key : (n l : ℕ) (key : List ℕ) {answer : Expanded} → Expands n l key answer → AnswersKey n l key answer
unfolding padded
answers_key n l key {answer} h =
    let r = expand_refusal n l (length key) in
    let e : answer.number ≡ r = ap (λ (x : Expanded). x.number) h ∙ expansion_number article.SM 0 n l key r in
    (expand_number n l (length key) e, λ z. ap (λ (x : Expanded). x.key) h ∙ expansion_blank article.SM 0 n l key r (λ y. z (e ∙ y)))

pub answers_block : (map : List ℕ → List ℕ) (k : WorkingKey) (source : List ℕ) {number : ℕ} {before after : List ℕ}
    → Maps map k.n source number before after → AnswersBlock k source number before after
answers_block map k source {number} {before} h = (block_number k.n (length source) (length before) h.0, kept number (map source) before h.1)

module _ (k : WorkingKey) (start source : List ℕ) {number : ℕ} {before after : List ℕ} where
  pub seals_answers : SealsCbc k start source number before after → AnswersCbc k start source number before after
  seals_answers h = (cbc_number k.n (length start) (length source) (length before) h.0, kept number (cbc_seal (E article k.n k.words) (16 * k.n) start source) before h.1)

  pub opens_answers : OpensCbc k start source number before after → AnswersCbc k start source number before after
  opens_answers h = (cbc_number k.n (length start) (length source) (length before) h.0, kept number (cbc_open (U article k.n k.words) (16 * k.n) start source) before h.1)

  pub ctr_answers : (q : ℕ) → RunsCtr k start q source number before after → AnswersCtr k start source number before after
  ctr_answers q h = (ctr_number k.n (length start) (length source) (length before) h.0, kept number (ctr (E article k.n k.words) (16 * k.n) start q source) before h.1)

pub answers_step : (t : Tape) (rest : List ℕ) {answer : Stepped} {before after : List ℕ} → Steps t rest answer before after → AnswersStep t rest answer before after
answers_step t rest {answer} {before} {after} h =
    step_says (λ number taken written next.
    (answer ≡ record { number = number; taken = taken; written = length written; next = next }) × (after ≡ over written before)) t rest (length before) h

pub answers_tape : (tape : List ℕ) {answer : Answered} {before after : List ℕ} → WorksTape tape answer before after → AnswersTape tape answer before after
answers_tape tape {answer} {before} {after} h =
    run_says (λ (q : Ran). (answer ≡ returned q) × (after ≡ over q.written before)) tape (length before) h

-- ---- demand 2: the blocks of a run, and substitution

-- by any parts
module _ (p : Parts) (n : ℕ) (ws start : List ℕ) where
  pub sealed_by : (source : List ℕ) (room : ℕ) {sealed : List ℕ} → cbc_refusal n (length start) (length source) room ≡ 0 → sealed ≡ cbc_seal (E p n ws) (16 * n) start source
      → SealedBy (E p n ws) (16 * n) start source sealed
  sealed_by source room r h =
      let t = cbc_taken n (length start) (length source) room refl r in
      rw h (length_seal (E p n ws) (16 * n) (keeps_E p n ws) start source t.whole, λ i l. seal_block (E p n ws) (16 * n) (keeps_E p n ws) start source i l)

  pub opened_by : (source : List ℕ) (room : ℕ) {opened : List ℕ} → cbc_refusal n (length start) (length source) room ≡ 0 → opened ≡ cbc_open (U p n ws) (16 * n) start source
      → OpenedBy (U p n ws) (16 * n) start source opened
  opened_by source room r h =
      let t = cbc_taken n (length start) (length source) room refl r in
      rw h
      (length_open (U p n ws) (16 * n) (keeps_U p n ws) start source t.start t.whole, λ i l. open_block (U p n ws) (16 * n) (keeps_U p n ws) start source i t.start l)

  pub counted_by : (q : ℕ) (source : List ℕ) (room : ℕ) {after : List ℕ} → ctr_refusal n (length start) (length source) room ≡ 0 → after ≡ ctr (E p n ws) (16 * n) start q source
      → CountedBy (E p n ws) (16 * n) start q source after
  counted_by q source room r h =
      let t = ctr_taken n (length start) (length source) room refl r in
      rw h (length_ctr (E p n ws) (16 * n) (keeps_E p n ws) start (omega (arith, t.size.pos)) q source, λ i l. ctr_block (E p n ws) (16 * n) (keeps_E p n ws) start q source i l)

module _ (k : WorkingKey) (start : List ℕ) where
  pub sealed_by_blocks : (source before : List ℕ) {sealed : List ℕ} → SealsCbc k start source 0 before sealed → SealedByBlocks k start source sealed
  sealed_by_blocks source before h = sealed_by article k.n k.words start source (length before) (sym h.0) h.1

  pub opened_by_blocks : (source before : List ℕ) {opened : List ℕ} → OpensCbc k start source 0 before opened → OpenedByBlocks k start source opened
  opened_by_blocks source before h = opened_by article k.n k.words start source (length before) (sym h.0) h.1

  pub counted_by_blocks : (q : ℕ) (source before : List ℕ) {after : List ℕ} → RunsCtr k start q source 0 before after → CountedByBlocks k start q source after
  counted_by_blocks q source before h = counted_by article k.n k.words start q source (length before) (sym h.0) h.1

pub substitution_undone : SubstitutionUndone
substitution_undone b h = (table1_undo.back_there b h, table1_undo.there_back b h)

-- ---- the working key

-- by any word map, for any set, where a number of 0 means that the key is taken
pub unused_words_zero : (SM : ℕ → ℕ) (i n l : ℕ) (key : List ℕ) (r : ℕ) {answer : Expanded} → (r ≡ 0 → Taken n l (length key)) → answer ≡ expansion SM i n l key r → UnusedWordsZero answer
unfolding expansion
unused_words_zero SM i n l key r {answer} taken h = rw h (by_number r taken)
  where
    by_number : (r : ℕ) → (r ≡ 0 → Taken n l (length key)) → UnusedWordsZero (expansion SM i n l key r)
    by_number zero taken =
        let t = taken refl in
        let s = length_expanded_words SM n l key (omega (arith, t.top)) in
        let w : 8 * n ≤ 32 = omega (arith, t.size.top) in
        (length_padded (expanded_words SM n l key) (omega arith), λ j g. padded_zero (expanded_words SM n l key) j (omega arith))
    by_number (suc r) taken = (length_padded [] (omega arith), λ j g. padded_zero [] j (omega arith))

-- an operation under a working key, for any set, by the set's parts, n, the words and the rest r of the arguments: own is its number, result what it
-- gives, held what its destination held. Two calls under keys alike, with one store, one set named and one rest
module _ {R : Type 0} (own : Parts → ℕ → List ℕ → R → ℕ) (result : Parts → ℕ → List ℕ → R → List ℕ) (held : R → List ℕ) where
  abbrev pub UnderUsed : Type 0
  UnderUsed =
      (k j : WorkingKey) (g g' : Store × ℕ × R) (y z : ℕ) (e f : List ℕ) → SameUsed k j → g ≡ g'
      → let m = parts_in g.0 g.1 in
      let m' = parts_in g'.0 g'.1 in
      (y ≡ under_key k.n (loaded g.0 g.1) (own m k.n k.words g.2)) × (e ≡ outcome y (result m k.n k.words g.2) (held g.2))
      → (z ≡ under_key j.n (loaded g'.0 g'.1) (own m' j.n j.words g'.2)) × (f ≡ outcome z (result m' j.n j.words g'.2) (held g'.2))
      → (y ≡ z) × (e ≡ f)

  pub under_alike : ((p : Parts) (n : ℕ) (ws vs : List ℕ) → Used n ws vs → (r : R) → (own p n ws r ≡ own p n vs r) × (result p n ws r ≡ result p n vs r)) → UnderUsed
  under_alike used k j g g' y z e f s p u v =
      let m = parts_in g.0 g.1 in
      let is = loaded g.0 g.1 in
      let same = used m k.n k.words j.words s.1 g.2 in
      let r : y ≡ z
      = u.0
      ∙ ap (under_key k.n is) same.0
      ∙ ap (λ (i : ℕ). under_key i is (own m i j.words g.2)) s.0
      ∙ ap (λ (x : Store × ℕ × R). under_key j.n (loaded x.0 x.1) (own (parts_in x.0 x.1) j.n j.words x.2)) p
      ∙ sym v.0 in (
        r,
        u.1
            ∙ ap₂ (λ (i : ℕ) (x : List ℕ). outcome i x (held g.2)) r (same.1 ∙ ap (λ (i : ℕ). result m i j.words g.2) s.0)
            ∙ ap (λ (x : Store × ℕ × R). outcome z (result (parts_in x.0 x.1) j.n j.words x.2) (held x.2)) p
            ∙ sym v.1,
      )

-- where the number is by n and the rest alone
pub under_used : {R : Type 0} (own : ℕ → R → ℕ) (result : Parts → ℕ → List ℕ → R → List ℕ) (held : R → List ℕ)
    → ((p : Parts) (n : ℕ) (ws vs : List ℕ) → Used n ws vs → (r : R) → result p n ws r ≡ result p n vs r) → UnderUsed (λ p n ws r. own n r) result held
under_used own result held used = under_alike (λ p n ws r. own n r) result held (λ p n ws vs s r. (refl, used p n ws vs s r))

-- a block, a chained run, a counted one
pub enciphers_used : UnderUsed {R = List ℕ × List ℕ} (λ p n ws r. block_refusal n (length r.0) (length r.1)) (λ p n ws r. E p n ws r.0) (λ r. r.1)
enciphers_used = under_used _ _ _ (λ p n ws vs s r. E_used p n ws vs s r.0)

pub deciphers_used : UnderUsed {R = List ℕ × List ℕ} (λ p n ws r. block_refusal n (length r.0) (length r.1)) (λ p n ws r. U p n ws r.0) (λ r. r.1)
deciphers_used = under_used _ _ _ (λ p n ws vs s r. U_used p n ws vs s r.0)

pub seals_used : UnderUsed {R = List ℕ × List ℕ × List ℕ} (λ p n ws r. cbc_refusal n (length r.0) (length r.1) (length r.2))
    (λ p n ws r. cbc_seal (E p n ws) (16 * n) r.0 r.1) (λ r. r.2)
seals_used = under_used _ _ _ (λ p n ws vs s r. seal_used p n ws vs s (16 * n) r.0 r.1)

pub opens_used : UnderUsed {R = List ℕ × List ℕ × List ℕ} (λ p n ws r. cbc_refusal n (length r.0) (length r.1) (length r.2))
    (λ p n ws r. cbc_open (U p n ws) (16 * n) r.0 r.1) (λ r. r.2)
opens_used = under_used _ _ _ (λ p n ws vs s r. open_used p n ws vs s (16 * n) r.0 r.1)

pub runs_used : UnderUsed {R = List ℕ × ℕ × List ℕ × List ℕ} (λ p n ws r. ctr_refusal n (length r.0) (length r.2) (length r.3))
    (λ p n ws r. ctr (E p n ws) (16 * n) r.0 r.1 r.2) (λ r. r.3)
runs_used = under_used _ _ _ (λ p n ws vs s r. ctr_used p n ws vs s (16 * n) r.0 r.1 r.2)

-- the tape
alike : (t u : Tape) → AlikeStates t u → Alike t u
alike t u h = record { n = h.0.0; words = h.0.1; keyed = h.1; ended = h.2 }

pub steps_alike : (t u : Tape) {g g' : List ℕ × List ℕ} {y z : Stepped} {e f : List ℕ} → AlikeStates t u → g ≡ g' → Steps t g.0 y g.1 e → Steps u g'.0 z g'.1 f
    → AlikeAnswers y z × (e ≡ f)
steps_alike t u {g} {g'} {y} {z} {e} {f} h p a b =
    let s = step_used t u (alike t u h) g.0 (length g.1) in
    let c : Steps u g.0 z g.1 f = subst (λ (x : List ℕ × List ℕ). Steps u x.0 z x.1 f) (sym p) b in
    let same : AlikeAnswers (tape.returned (step t g.0 (length g.1))) (tape.returned (step u g.0 (length g.1)))
    = (s.number, s.taken, ap length s.written, ((s.next.n, s.next.words), s.next.keyed, s.next.ended)) in (
      subst (λ (x : Stepped). AlikeAnswers x z) (sym a.0) (subst (AlikeAnswers (tape.returned (step t g.0 (length g.1)))) (sym c.0) same),
      a.1 ∙ ap (λ (x : List ℕ). over x g.1) s.written ∙ sym c.1,
    )

pub tapes_of_used_words : TapesOfUsedWords
tapes_of_used_words k t u rest h = steps_used k t u rest (alike t u h)

-- ---- demand 3

pub e_and_u_undo : EAndUUndo
e_and_u_undo n ws b w l h = (U_E article article_sound n ws b w l h, E_U article article_sound n ws b w l h)

pub blocks_come_back : BlocksComeBack
blocks_come_back k source before mapped old after w hb = (
  λ h g. g.1 ∙ ap (U article k.n k.words) h.1 ∙ (e_and_u_undo k.n k.words source w (long h.0) hb).0,
  λ h g. g.1 ∙ ap (E article k.n k.words) h.1 ∙ (e_and_u_undo k.n k.words source w (long h.0) hb).1,
)
  where
    long : 0 ≡ block_refusal k.n (length source) (length before) → length source ≡ 16 * k.n
    long e = ((block_iff k.n (length source) (length before)).0 (sym e)).1

pub cbc_opens_again : CbcOpensAgain
cbc_opens_again n ws start p sealed w hs hp taken =
    cbc_again article n ws start p sealed article_sound w hs hp refl ((cbc_iff n (length start) (length p) sealed).1 ((unless_four taken).0 refl))

pub ctr_opens_again : CtrOpensAgain
ctr_opens_again n ws start q p sealed taken =
    ctr_again article n ws start p sealed q refl ((ctr_iff n (length start) (length p) sealed).1 ((unless_three taken).0 refl))

pub cbc_calls_open : CbcCallsOpen
cbc_calls_open k start source before sealed old opened w hs hp h g =
    g.1 ∙ ap (cbc_open (U article k.n k.words) (16 * k.n) start) h.1 ∙ cbc_again article k.n k.words start source (length before) article_sound w hs hp h.0 refl

pub ctr_calls_open : CtrCallsOpen
ctr_calls_open k start q source before sealed old opened h g =
    g.1 ∙ ap (ctr (E article k.n k.words) (16 * k.n) start q) h.1 ∙ ctr_again article k.n k.words start source (length before) q h.0 refl

pub mixing_of_xor : MixingOfXor
mixing_of_xor = mix_xor row

pub mixing_rotated : MixingRotated
mixing_rotated = mix_rotl row

pub mixing_eight_times : MixingEightTimes
mixing_eight_times = mix_row_eight
