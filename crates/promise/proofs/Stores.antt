-- What document 02, Job 7, asks for holds: of an operation's answer, from what its contract says.
-- Assumes nothing.
use mathlib.Core.Path.{◌≡◌, refl, sym, ap, ap₂, subst, ◌∙◌}
use mathlib.Core.Bool.{false}
use mathlib.Core.List.{List}
use Prim.Native.Nat.{ℕ, ◌*◌}
use lib.ListN.{length}
use Rattle.forms.specs.Refusals.{outcome, first_of}
use Rattle.forms.proofs.Refusals.{unless_map}
use Rattle.labyrinth.specs.declared.WorkingKey.{WorkingKey}
use Rattle.labyrinth.specs.declared.Expanded.{Expanded}
use Rattle.labyrinth.specs.Cipher.{Parts, article}
use Rattle.labyrinth.specs.Keys.{E, U}
use Rattle.labyrinth.specs.Refusals.{legal, expand_refusal, under_key, under_length, padded, expansion}
use Rattle.labyrinth.specs.Working.{Taken}
use Rattle.labyrinth.proofs.Refusals.{block_number, expand_number, key_taken, block_one, under_number, under_length_number, under_length_loaded, under_length_taken, under_loaded, under_zero}
use Rattle.labyrinth.proofs.Expansion.{expansion_number, expansion_blank}
use Rattle.modes.specs.Cbc.{cbc_seal, cbc_open}
use Rattle.modes.specs.Ctr.{ctr}
use Rattle.modes.specs.Cmac.{tag}
use Rattle.modes.specs.Refusals.{cmac_refusal}
use Rattle.modes.proofs.Refusals.{cbc_number, ctr_number, cmac_number, cbc_one, ctr_one, cmac_one}
use Rattle.cmac.specs.declared.Verified.{Verified}
use Rattle.cmac.specs.Verification.{verification}
use Rattle.cmac.proofs.Tags.{verification_number, refused_no}
use Rattle.sets.specs.declared.Store.{Store}
use Rattle.sets.specs.declared.Changed.{Changed}
use Rattle.sets.specs.Sets.{parts_in, loaded, changed, with_set, with_taken, load_refusal, load, take_refusal, take}
use Rattle.sets.proofs.Sets.{parts_zero, loaded_zero, loaded_iff, load_number, take_number, former}
use Rattle.publishers.specs.Calls.{loads, takes, number, key, buffer, verdict, left, expands, enciphers, deciphers, seals, opens, counts, tags, verifies, named, used, answer, after}
use Rattle.publishers.specs.Pages.{SameSet}
use Rattle.publishers.proofs.Stores.{load_is, take_is}
use Rattle.publishers.proofs.Pages.{zero_same, cbc_opens_again, ctr_opens_again, expands_in}
use Rattle.promise.specs.Demands.{Expands, Enciphers, Deciphers, SealsCbc, OpensCbc, RunsCtr, UnusedWordsZero, SealedBy, OpenedBy, CountedBy, ComesBack}
use Rattle.promise.specs.Requests.{MakesTag, VerifiesTag, UsesSet, ExpandsFor, EnciphersIn, DeciphersIn, SealsCbcIn, OpensCbcIn, RunsCtrIn, MakesTagIn, VerifiesTagIn, UnderKey, AnswersBlockIn, AnswersCbcIn, AnswersCtrIn, AnswersTagIn, AnswersVerifyingIn, AnswersKeyFor, YesExactlyIn, Loads, Takes, AnswersLoad, AnswersTake, AnswersUse, AnswersCall, CbcPageOpens, CtrPageOpens, ComesBackIn}
use Rattle.promise.proofs.Demands.{kept, unused_words_zero, sealed_by, opened_by, counted_by}
use Rattle.promise.proofs.Requests.{yes_by}

-- ---- "With 0 named, all former guarantees read as before"

module _ (store : Store) (k : WorkingKey) (zero-named : k.set ≡ 0) where
  pub at_zero : {own answered : ℕ} (result : Parts → List ℕ) (before : List ℕ) {after : List ℕ} → (legal k.n ≡ false → own ≡ 1) → UsesSet store k own result answered before after
      → (answered ≡ own) × (after ≡ outcome answered (result article) before)
  at_zero result before one h = former store k.set k.n result before zero-named one h.0 h.1

  module _ (source : List ℕ) {answered : ℕ} (before : List ℕ) {after : List ℕ} where
    pub enciphers_at_zero : EnciphersIn store k source answered before after → Enciphers k source answered before after
    enciphers_at_zero h = at_zero (λ p. E p k.n k.words source) before (block_one k.n (length source) (length before)) h

    pub deciphers_at_zero : DeciphersIn store k source answered before after → Deciphers k source answered before after
    deciphers_at_zero h = at_zero (λ p. U p k.n k.words source) before (block_one k.n (length source) (length before)) h

    pub makes_at_zero : MakesTagIn store k source answered before after → MakesTag k source answered before after
    makes_at_zero h = at_zero (λ p. tag (E p k.n k.words) (length before) source) before (cmac_one k.n (length before)) h

    module _ (start : List ℕ) where
      pub seals_at_zero : SealsCbcIn store k start source answered before after → SealsCbc k start source answered before after
      seals_at_zero h = at_zero (λ p. cbc_seal (E p k.n k.words) (16 * k.n) start source) before (cbc_one k.n (length start) (length source) (length before)) h

      pub opens_at_zero : OpensCbcIn store k start source answered before after → OpensCbc k start source answered before after
      opens_at_zero h = at_zero (λ p. cbc_open (U p k.n k.words) (16 * k.n) start source) before (cbc_one k.n (length start) (length source) (length before)) h

      pub runs_at_zero : (q : ℕ) → RunsCtrIn store k start q source answered before after → RunsCtr k start q source answered before after
      runs_at_zero q h = at_zero (λ p. ctr (E p k.n k.words) (16 * k.n) start q source) before (ctr_one k.n (length start) (length source) (length before)) h

  pub verifies_at_zero : (message given : List ℕ) {answered : Verified} → VerifiesTagIn store k message given answered → VerifiesTag k message given answered
  verifies_at_zero message given h =
      h
      ∙ ap (λ (p : Parts). verification (E p k.n k.words) message given (under_key k.n (loaded store k.set) (cmac_refusal k.n (length given)))) (parts_zero store k.set zero-named)
      ∙ ap (verification (E article k.n k.words) message given) (under_loaded k.n (loaded store k.set) (cmac_refusal k.n (length given)) (cmac_one k.n (length given)) (loaded_zero store k.set zero-named))

pub expands_at_zero : (store : Store) (n l i : ℕ) (secret : List ℕ) {answered : Expanded} → i ≡ 0 → ExpandsFor store n l i secret answered → Expands n l secret answered
expands_at_zero store n l i secret z h =
    h
    ∙ ap (λ (p : Parts). expansion p.SM i n l secret (under_length n l (loaded store i) (expand_refusal n l (length secret)))) (parts_zero store i z)
    ∙ ap (λ (j : ℕ). expansion article.SM j n l secret (under_length n l (loaded store i) (expand_refusal n l (length secret)))) z
    ∙ ap (expansion article.SM 0 n l secret) (under_length_loaded n l (loaded store i) (length secret) (loaded_zero store i z))

-- both calls of a round trip
pub both_at_zero : (s t : Store) (k : WorkingKey) {sealing opening answered : ℕ} (source before : List ℕ) {after : List ℕ} → k.set ≡ 0 → (legal k.n ≡ false → sealing ≡ 1)
    → (legal k.n ≡ false → opening ≡ 1) → ComesBackIn s t k sealing opening source answered before after → ComesBack sealing opening source answered before after
both_at_zero s t k {sealing} {opening} source before z one two h = (
  h.0 ∙ ap₂ first_of (under_loaded k.n (loaded s k.set) sealing one (loaded_zero s k.set z)) (under_loaded k.n (loaded t k.set) opening two (loaded_zero t k.set z)),
  h.1 (zero_same s t k.set z),
)

-- ---- 15 right after 1, and after 2

module _ (store : Store) (k : WorkingKey) where
  pub under : {own answered : ℕ} {further : Type 0} → answered ≡ under_key k.n (loaded store k.set) own → (answered ≡ own → further) → UnderKey store k answered further
  under {own} e f = under_number k.n (loaded store k.set) own e (loaded_iff store k.set) f

  module _ (source : List ℕ) {answered : ℕ} {before after : List ℕ} where
    pub enciphers_answers_in : EnciphersIn store k source answered before after → AnswersBlockIn store k source answered before after
    enciphers_answers_in h = (under h.0 (block_number k.n (length source) (length before)), kept answered _ before h.1)

    pub deciphers_answers_in : DeciphersIn store k source answered before after → AnswersBlockIn store k source answered before after
    deciphers_answers_in h = (under h.0 (block_number k.n (length source) (length before)), kept answered _ before h.1)

    pub makes_answers_in : MakesTagIn store k source answered before after → AnswersTagIn store k answered before after
    makes_answers_in h = (under h.0 (cmac_number k.n (length before)), kept answered _ before h.1)

    module _ (start : List ℕ) where
      pub seals_answers_in : SealsCbcIn store k start source answered before after → AnswersCbcIn store k start source answered before after
      seals_answers_in h = (under h.0 (cbc_number k.n (length start) (length source) (length before)), kept answered _ before h.1)

      pub opens_answers_in : OpensCbcIn store k start source answered before after → AnswersCbcIn store k start source answered before after
      opens_answers_in h = (under h.0 (cbc_number k.n (length start) (length source) (length before)), kept answered _ before h.1)

      pub runs_answers_in : (q : ℕ) → RunsCtrIn store k start q source answered before after → AnswersCtrIn store k start source answered before after
      runs_answers_in q h = (under h.0 (ctr_number k.n (length start) (length source) (length before)), kept answered _ before h.1)

  module _ (message given : List ℕ) {answered : Verified} (h : VerifiesTagIn store k message given answered) where
    refusal : ℕ
    refusal = under_key k.n (loaded store k.set) (cmac_refusal k.n (length given))

    pub verifies_answers_in : AnswersVerifyingIn store k given answered
    unfolding refusal
    verifies_answers_in =
        let e = E (parts_in store k.set) k.n k.words in
        let p : answered.number ≡ refusal = ap (λ (v : Verified). v.number) h ∙ verification_number e message given refusal in
        (under p (cmac_number k.n (length given)), λ z. ap (λ (v : Verified). v.yes) (h ∙ sym (refused_no e message given refusal refl (λ y. z (p ∙ y)))))

    pub yes_exactly_in : YesExactlyIn store k message given answered
    yes_exactly_in = yes_by (parts_in store k.set) k message given _ (under_zero k.n (loaded store k.set) (cmac_refusal k.n (length given))) h

module _ (store : Store) (n l i : ℕ) (secret : List ℕ) {answered : Expanded} (h : ExpandsFor store n l i secret answered) where
  for_number : ℕ
  for_number = under_length n l (loaded store i) (expand_refusal n l (length secret))

  key_taken_for : for_number ≡ 0 → Taken n l (length secret)
  unfolding for_number
  key_taken_for z = key_taken n l (length secret) refl (under_length_taken n l (loaded store i) (length secret) refl z).1

  pub unused_words_zero_for : UnusedWordsZero answered
  unfolding for_number
  unused_words_zero_for = unused_words_zero (parts_in store i).SM i n l secret for_number key_taken_for h

  pub answers_key_for : AnswersKeyFor store n l i secret answered
  unfolding for_number padded expansion
  answers_key_for =
      let e : answered.number ≡ for_number = ap (λ (x : Expanded). x.number) h ∙ expansion_number (parts_in store i).SM i n l secret for_number in (
        under_length_number n l (loaded store i) _ e (loaded_iff store i) (expand_number n l (length secret)),
        λ z. ap (λ (x : Expanded). x.key) h ∙ expansion_blank (parts_in store i).SM i n l secret for_number (λ y. z (e ∙ y)),
        λ z. subst (λ (x : Expanded). (x.key.n ≡ n) × (x.key.set ≡ i)) (sym h) (names for_number (sym e ∙ z)),
      )
    where
      named_zero : (n l : ℕ) → ((expansion (parts_in store i).SM i n l secret 0).key.n ≡ n) × ((expansion (parts_in store i).SM i n l secret 0).key.set ≡ i)
      named_zero n l = (refl, refl)

      names : (r : ℕ) → r ≡ 0 → ((expansion (parts_in store i).SM i n l secret r).key.n ≡ n) × ((expansion (parts_in store i).SM i n l secret r).key.set ≡ i)
      names r z = rw z (named_zero n l)

-- ---- runs by any set, block by block

module _ (store : Store) (k : WorkingKey) (start source before : List ℕ) {after : List ℕ} where
  pub sealed_by_in : SealsCbcIn store k start source 0 before after → SealedBy (E (parts_in store k.set) k.n k.words) (16 * k.n) start source after
  sealed_by_in h = sealed_by (parts_in store k.set) k.n k.words start source (length before) (under_zero k.n (loaded store k.set) _ (sym h.0)) h.1

  pub opened_by_in : OpensCbcIn store k start source 0 before after → OpenedBy (U (parts_in store k.set) k.n k.words) (16 * k.n) start source after
  opened_by_in h = opened_by (parts_in store k.set) k.n k.words start source (length before) (under_zero k.n (loaded store k.set) _ (sym h.0)) h.1

  pub counted_by_in : (q : ℕ) → RunsCtrIn store k start q source 0 before after → CountedBy (E (parts_in store k.set) k.n k.words) (16 * k.n) start q source after
  counted_by_in q h = counted_by (parts_in store k.set) k.n k.words start q source (length before) (under_zero k.n (loaded store k.set) _ (sym h.0)) h.1

-- ---- loading and taking

pub answers_load : (s : Store) (p i : ℕ) (v g : List ℕ) {answered : Changed} → Loads s p i v g answered → AnswersLoad s p i v g answered
unfolding load
answers_load s p i v g {answered} h =
    unless_map (said 15) (unless_map (said 14) (unless_map (said 13) (unless_map (said 16) (said 0)))) (load_number s p i v g refl)
  where
    said : (m : ℕ) → load_refusal s p i v g ≡ m → answered ≡ changed m (with_set s i (record { substitution = v; row = g })) s
    said m e = h ∙ ap (λ (r : ℕ). changed r (with_set s i (record { substitution = v; row = g })) s) e

pub answers_take : (s : Store) (p i : ℕ) {answered : Changed} → Takes s p i answered → AnswersTake s p i answered
unfolding take
answers_take s p i {answered} h = unless_map (said 15) (said 0) (take_number s p i refl)
  where
    said : (m : ℕ) → take_refusal s p i ≡ m → answered ≡ changed m (with_taken s p i) s
    said m e = h ∙ ap (λ (r : ℕ). changed r (with_taken s p i) s) e

-- ---- what a call in a history is said to answer, the operation answers

pub left_is : (r : ℕ) (x before : List ℕ) {answered : ℕ} {after : List ℕ} → answered ≡ r → after ≡ outcome answered x before → left r x before ≡ buffer answered after
left_is r x before {answered} e f = ap (λ (n : ℕ). buffer n (outcome n x before)) (sym e) ∙ ap (buffer answered) (sym f)

module _ (s : Store) (k : WorkingKey) (source before : List ℕ) {answered : ℕ} {after : List ℕ} where
  pub enciphers_as : EnciphersIn s k source answered before after → AnswersUse s (enciphers k source before) (buffer answered after)
  unfolding answer used named
  enciphers_as h p = left_is _ _ before h.0 h.1

  pub deciphers_as : DeciphersIn s k source answered before after → AnswersUse s (deciphers k source before) (buffer answered after)
  unfolding answer used named
  deciphers_as h p = left_is _ _ before h.0 h.1

  pub makes_as : MakesTagIn s k source answered before after → AnswersUse s (tags k source before) (buffer answered after)
  unfolding answer used named
  makes_as h p = left_is _ _ before h.0 h.1

  module _ (start : List ℕ) where
    pub seals_as : SealsCbcIn s k start source answered before after → AnswersUse s (seals k start source before) (buffer answered after)
    unfolding answer used named
    seals_as h p = left_is _ _ before h.0 h.1

    pub opens_as : OpensCbcIn s k start source answered before after → AnswersUse s (opens k start source before) (buffer answered after)
    unfolding answer used named
    opens_as h p = left_is _ _ before h.0 h.1

    pub runs_as : (q : ℕ) → RunsCtrIn s k start q source answered before after → AnswersUse s (counts k start q source before) (buffer answered after)
    unfolding answer used named
    runs_as q h p = left_is _ _ before h.0 h.1

pub verifies_as : (s : Store) (k : WorkingKey) (message given : List ℕ) {answered : Verified} → VerifiesTagIn s k message given answered → AnswersUse s (verifies k message given) (verdict answered)
unfolding answer used named
verifies_as s k message given h p = ap verdict (sym h)

pub expands_as : (s : Store) (n l i : ℕ) (secret : List ℕ) {answered : Expanded} → ExpandsFor s n l i secret answered → AnswersUse s (expands n l i secret) (key answered)
unfolding answer used named
expands_as s n l i secret h p = ap key (sym h)

pub loads_as : (s : Store) (p i : ℕ) (v g : List ℕ) {answered : Changed} → Loads s p i v g answered → AnswersCall s (loads p i v g) answered
unfolding answer after
loads_as s p i v g h = (ap number (sym (load_is s p i v g) ∙ ap (λ (c : Changed). c.number) (sym h)), ap (λ (c : Changed). c.store) (sym h))

pub takes_as : (s : Store) (p i : ℕ) {answered : Changed} → Takes s p i answered → AnswersCall s (takes p i) answered
unfolding answer after
takes_as s p i h = (ap number (sym (take_is s p i) ∙ ap (λ (c : Changed). c.number) (sym h)), ap (λ (c : Changed). c.store) (sym h))

-- ---- pages over three stores

pub cbc_page_opens : CbcPageOpens
cbc_page_opens x s t n l i secret e start page before sealed room opened xs st w hs hp h z f g =
    let k = expands_in x s i xs 0 n l secret e (expands_as x n l i secret h 0) z in (
      f.1 ∙ ap (λ (k : WorkingKey). cbc_seal (E (parts_in s k.set) k.n k.words) (16 * k.n) start page) k,
      cbc_opens_again s t e.key (subst (λ (j : ℕ). SameSet j s t) (sym (ap (λ (k : WorkingKey). k.set) k)) st) w start page hs hp 0 0 before sealed room opened
          (seals_as s e.key page before start f 0) (opens_as t e.key sealed room start g 0),
    )

pub ctr_page_opens : CtrPageOpens
ctr_page_opens x s t n l i secret e start q page before sealed room opened xs st h z f g =
    let k = expands_in x s i xs 0 n l secret e (expands_as x n l i secret h 0) z in (
      f.1 ∙ ap (λ (k : WorkingKey). ctr (E (parts_in s k.set) k.n k.words) (16 * k.n) start q page) k,
      ctr_opens_again s t e.key (subst (λ (j : ℕ). SameSet j s t) (sym (ap (λ (k : WorkingKey). k.set) k)) st) start q page 0 0 before sealed room opened
          (runs_as s e.key page before start q f 0) (runs_as t e.key sealed room start q g 0),
    )
