-- What document 02, Job 8, asks for holds: of key wrapping over any block map with its inverse, and of an operation's answer, from what its contract says.
-- Assumes nothing.
use mathlib.Core.Path.{◌≡◌, refl, sym, ap, subst, ◌∙◌}
use mathlib.Core.Bool.{Bool, true, false}
use mathlib.Core.Logic.{inl, inr, ◌↔◌}
use mathlib.Core.List.{List}
use Prim.Native.Nat.{ℕ}
use native.Mathlib.Omega.{arith}
use lib.ListN.{length, replicate}
use Rattle.forms.specs.Lists.{tabulate}
use Rattle.forms.specs.Words.{byte}
use Rattle.forms.specs.Strings.{string}
use Rattle.forms.specs.Refusals.{outcome}
use Rattle.forms.proofs.Refusals.{unless_four}
use Rattle.labyrinth.specs.declared.WorkingKey.{WorkingKey}
use Rattle.labyrinth.specs.Cipher.{Parts}
use Rattle.labyrinth.specs.Keys.{E, U}
use Rattle.labyrinth.specs.Refusals.{legal}
use Rattle.labyrinth.proofs.Refusals.{under_zero}
use Rattle.modes.specs.KeyWrap.{ICV1, wrapped, authentic, unwrapped}
use Rattle.modes.specs.Refusals.{wrap_refusal, unwrap_refusal}
use Rattle.modes.proofs.Maps.{Keeps, Undone, keeps_one, keeps_one_U}
use Rattle.modes.proofs.KeyWrap.{authentic_iff, length_wrapped, bytes_unwrapped, wrapped_authentic, unwrapped_wrapped, unwrapped_once, wraps_iff}
use Rattle.modes.proofs.Refusals.{wrap_number, wrap_taken, wrap_one, unwrap_number, unwrap_taken, unwrap_one}
use Rattle.modes.proofs.Again.{unwrap_again}
use Rattle.modes.proofs.Used.{wrapped_used, authentic_used, unwrapped_used}
use Rattle.sets.specs.declared.Store.{Store}
use Rattle.sets.specs.Sets.{parts_in, loaded}
use Rattle.sets.proofs.Sets.{parts_zero, loaded_sound}
use Rattle.publishers.specs.Calls.{buffer, wraps, unwraps, named, used, answer}
use Rattle.publishers.specs.Pages.{Bytes, Words, SameSet}
use Rattle.publishers.proofs.Pages.{zero_same, same_parts, same_buffer, keys_yield, expands_in}
use Rattle.promise.specs.Demands.{ComesBack}
use Rattle.promise.specs.Requests.{AnswersUse, WrapsKey, UnwrapsKey, WrapsKeyIn, UnwrapsKeyIn, RightValue, WrapsTaken, UnwrapsTaken, AnswersWrapping, AnswersUnwrapping, AnswersWrappingIn, AnswersUnwrappingIn, MapsBlocks, Undoes, UnwrapsWrapped, KeyUnwraps, KeyTravels, AcceptsWrapped, SentBy, AcceptsSent, KeyWrapsAgain, UnwrapsOnce, OneSource, KeyComesBackIn}
use Rattle.promise.proofs.Demands.{kept, UnderUsed, under_alike, under_used}
use Rattle.promise.proofs.Stores.{at_zero, both_at_zero, under, left_is, expands_as}

-- ---- the check value is eight bytes A6

check_value : ICV1 ≡ replicate 8 0xA6
unfolding ICV1 string tabulate byte
check_value = refl

right_iff : (u : List ℕ → List ℕ) (c : List ℕ) → (authentic u c ≡ true) ↔ RightValue u c
right_iff u c = let h = authentic_iff u c in (λ a. h.0 a ∙ check_value, λ e. h.1 (e ∙ sym check_value))

-- ---- 1, 12, 17, 5 and 18, and what a refusal leaves

pub wraps_taken : WrapsTaken
wraps_taken n source destination number u =
    let all = unless_four u in
    (λ z. let h = all.0 z in (h.1, h.2, h.3), λ h. all.1 (inl h.0, h.0, h.1, h.2))

pub unwraps_taken : UnwrapsTaken
unwraps_taken u n source destination number (inl x) = (λ z. let f : ⊥ = omega (arith, x.1) in absurd f, λ h. absurd (x.0 (inl h.0)))
unwraps_taken u n source destination number (inr x) = unless_four x.1

module _ (k : WorkingKey) (source : List ℕ) {number : ℕ} {before after : List ℕ} where
  pub answers_wrapping : WrapsKey k source number before after → AnswersWrapping k source number before after
  answers_wrapping h = (wrap_number k.n (length source) (length before) h.0, kept number _ before h.1)

  pub answers_unwrapping : UnwrapsKey k source number before after → AnswersUnwrapping k source number before after
  answers_unwrapping h = (unwrap_number k.n (length source) (length before) _ h.0 (right_iff _ source), kept number _ before h.1)

  -- 15 right after 1
  module _ (store : Store) where
    pub answers_wrapping_in : WrapsKeyIn store k source number before after → AnswersWrappingIn store k source number before after
    answers_wrapping_in h = (under store k h.0 (wrap_number k.n (length source) (length before)), kept number _ before h.1)

    pub answers_unwrapping_in : UnwrapsKeyIn store k source number before after → AnswersUnwrappingIn store k source number before after
    answers_unwrapping_in h =
        (under store k h.0 (λ e. unwrap_number k.n (length source) (length before) _ e (right_iff _ source)), kept number _ before h.1)

-- ---- with set 0 named

module _ (store : Store) (k : WorkingKey) (zero-named : k.set ≡ 0) (source : List ℕ) {number : ℕ} (before : List ℕ) {after : List ℕ} where
  pub wraps_at_zero : WrapsKeyIn store k source number before after → WrapsKey k source number before after
  wraps_at_zero h = at_zero store k zero-named (λ p. wrapped (E p k.n k.words) source) before (wrap_one k.n (length source) (length before)) h

  pub unwraps_at_zero : UnwrapsKeyIn store k source number before after → UnwrapsKey k source number before after
  unwraps_at_zero h =
      let z = at_zero store k zero-named (λ p. unwrapped (U p k.n k.words) source) before (unwrap_one k.n (length source) (length before) _) h in
      (z.0 ∙ ap (λ (p : Parts). unwrap_refusal k.n (length source) (length before) (authentic (U p k.n k.words) source)) (parts_zero store k.set zero-named), z.1)

-- both calls of a round trip
pub key_back_at_zero : (s t : Store) (k : WorkingKey) {wrapping number : ℕ} (unwrapping : Bool → ℕ) (right : Bool) (source before : List ℕ) {after : List ℕ} → k.set ≡ 0
    → (legal k.n ≡ false → wrapping ≡ 1) → (legal k.n ≡ false → unwrapping true ≡ 1) → KeyComesBackIn s t k wrapping unwrapping right source number before after
    → ComesBack wrapping (unwrapping true) source number before after
key_back_at_zero s t k unwrapping right source before z one two h = both_at_zero s t k source before z one two (h.1 (zero_same s t k.set z), h.0.1)

-- ---- what a call in a history is said to answer, the operation answers; it depends on the used words only

module _ (s : Store) (k : WorkingKey) (source before : List ℕ) {number : ℕ} {after : List ℕ} where
  pub wraps_as : WrapsKeyIn s k source number before after → AnswersUse s (wraps k source before) (buffer number after)
  unfolding answer used named
  wraps_as h p = left_is _ _ before h.0 h.1

  pub unwraps_as : UnwrapsKeyIn s k source number before after → AnswersUse s (unwraps k source before) (buffer number after)
  unfolding answer used named
  unwraps_as h p = left_is _ _ before h.0 h.1

pub wraps_used : UnderUsed {R = List ℕ × List ℕ} (λ p n ws r. wrap_refusal n (length r.0) (length r.1)) (λ p n ws r. wrapped (E p n ws) r.0) (λ r. r.1)
wraps_used = under_used _ _ _ (λ p n ws vs s r. wrapped_used p n ws vs s r.0)

pub unwraps_used : UnderUsed {R = List ℕ × List ℕ} (λ p n ws r. unwrap_refusal n (length r.0) (length r.1) (authentic (U p n ws) r.0))
    (λ p n ws r. unwrapped (U p n ws) r.0) (λ r. r.1)
unwraps_used =
    under_alike (λ p n ws r. unwrap_refusal n (length r.0) (length r.1) (authentic (U p n ws) r.0)) _ _
    (λ p n ws vs s r. (ap (unwrap_refusal n (length r.0) (length r.1)) (authentic_used p n ws vs s r.0), unwrapped_used p n ws vs s r.0))

-- ---- over any block map with its inverse

keeps : {e : List ℕ → List ℕ} → MapsBlocks e → Keeps 16 e
keeps h = record { len = λ b. (h b).0; bytes = λ b. (h b).1 }

undone : {e u : List ℕ → List ℕ} → Undoes u e → Undone 16 e u
undone h = record { back = h }

pub unwraps_wrapped : UnwrapsWrapped
unwraps_wrapped e u k o key l b =
    ((right_iff u (wrapped e key)).0 (wrapped_authentic e u (keeps k) (undone o) key l b), unwrapped_wrapped e u (keeps k) (undone o) key l b)

pub accepts_wrapped : AcceptsWrapped
accepts_wrapped e u ke ku oe ou c l b =
    let h = wraps_iff e u (keeps ke) (keeps ku) (undone oe) (undone ou) c l b in (
      λ r. let w = h.0 ((right_iff u c).1 r) in record { key = w.key; long = w.long; small = w.small; made = w.made },
      λ w. (right_iff u c).0 (h.1 (record { key = w.key; long = w.long; small = w.small; made = w.made })),
    )

pub unwraps_once : UnwrapsOnce
unwraps_once e u k o c d lc ld bc bd rc rd q = unwrapped_once e u (keeps k) (undone o) c d lc ld bc bd ((right_iff u c).1 rc) ((right_iff u d).1 rd) q

-- ---- over two calls

pub key_unwraps : KeyUnwraps
key_unwraps s t k key before sent room after number h w b f l g =
    same_buffer (sym (unwraps_as t k sent room g 0) ∙ (keys_yield s t k h w key b).0 0 0 before sent room (wraps_as s k key before f 0) l)

pub key_wraps_again : KeyWrapsAgain
key_wraps_again s t k c before key room after number h w b f l g =
    same_buffer (sym (wraps_as t k key room g 0) ∙ (keys_yield s t k h w c b).1 0 0 before key room (unwraps_as s k c before f 0) l)

pub key_travels : KeyTravels
key_travels x s t n l i secret e key before sent room after number xs st w b h z f r g =
    let k = expands_in x s i xs 0 n l secret e (expands_as x n l i secret h 0) z in
    let a = key_unwraps s t e.key key before sent room after number (subst (λ (j : ℕ). SameSet j s t) (sym (ap (λ (k : WorkingKey). k.set) k)) st) w b f r g in
    (f.1 ∙ ap (λ (k : WorkingKey). wrapped (E (parts_in s k.set) k.n k.words) key) k, a.0, a.1)

-- what was unwrapped is what wrapping makes of it
made : (s : Store) (k : WorkingKey) (c before key : List ℕ) → loaded s k.set ≡ true → Words k.words → Bytes c → UnwrapsKeyIn s k c 0 before key
    → wrapped (E (parts_in s k.set) k.n k.words) key ≡ c
made s k c before key l w b f =
    ap (wrapped (E (parts_in s k.set) k.n k.words)) f.1
    ∙ unwrap_again (parts_in s k.set) k.n k.words c (length before) (loaded_sound s k.set l) w b refl (under_zero k.n (loaded s k.set) _ (sym f.0))

pub one_source : OneSource
one_source s t k c d before room key h w bc bd f g =
    sym (made s k c before key h.here w bc f)
    ∙ ap (λ (p : Parts). wrapped (E p k.n k.words) key) (same_parts h)
    ∙ made t k d room key h.there w bd g

pub accepts_sent : AcceptsSent
unfolding answer used named
accepts_sent s t k c room after number h w b l g = (λ z. sent (subst (λ (r : ℕ). UnwrapsKeyIn t k c r room after) z g), λ x. (key_unwraps s t k x.key x.before c room after number h w x.small x.sent (long x) g).0)
  where
    m : Parts
    m = parts_in t k.set

    back : SameSet k.set t s
    back = record { here = h.there; there = h.here; substitution = sym h.substitution; row = sym h.row }

    long : (x : SentBy s k c) → length room ≡ length x.key
    long x =
        let f = x.sent in
        let p = parts_in s k.set in
        let taken = wrap_taken k.n (length x.key) (length x.before) refl (under_zero k.n (loaded s k.set) _ (sym f.0)) in
        omega (arith, ap length f.1, length_wrapped (E p k.n k.words) (keeps_one p k.n k.words taken.one) x.key (omega (arith, taken.low_end)))

    sent : UnwrapsKeyIn t k c 0 room after → SentBy s k c
    sent f =
        let taken = (unwrap_taken k.n (length c) (length room) _ refl (under_zero k.n (loaded t k.set) _ (sym f.0))).0 in
        let a = same_buffer ((keys_yield t s k back w c b).1 0 0 room after c (unwraps_as t k c room f 0) refl) in
        record {
          key = after;
          before = c;
          small = subst Bytes (sym f.1) (bytes_unwrapped (U m k.n k.words) (keeps_one_U m k.n k.words taken.one) c b);
          sent = (sym a.0, sym a.1 ∙ ap (λ (r : ℕ). outcome r (wrapped (E (parts_in s k.set) k.n k.words) after) c) a.0);
        }
