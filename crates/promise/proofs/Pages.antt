-- What document 02, Job 9, asks for holds: of page records, and of an operation's answer, from what its contract says.
-- Assumes nothing.
use mathlib.Core.Path.{◌≡◌, refl, sym, ap, ap₂, subst, ◌∙◌}
use mathlib.Core.Bool.{Bool, true, false, false≢true}
use mathlib.Core.Logic.{inl, inr, ◌↔◌}
use mathlib.Core.List.{List, ◌∷◌, ◌++◌}
use Prim.Native.Nat.{ℕ, ◌-◌, ◌*◌, ◌/◌, ◌^◌, ◌<◌}
use native.Mathlib.Omega.{arith}
use borrow.Author.Tests.{eq-eqb}
use lib.Dec.{eqb}
use lib.ListN.{length, take}
use Rattle.forms.specs.Refusals.{unless, Unless, outcome}
use Rattle.forms.specs.Strings.{same}
use Rattle.forms.proofs.Strings.{same_refl}
use Rattle.forms.proofs.Booleans.{eqb_iff}
use Rattle.forms.proofs.Refusals.{unless_plain, unless_three, unless_four}
use Rattle.labyrinth.specs.declared.WorkingKey.{WorkingKey}
use Rattle.labyrinth.specs.Keys.{E}
use Rattle.modes.specs.Cbc.{cbc_seal}
use Rattle.modes.specs.Cmac.{tag}
use Rattle.sets.specs.declared.Store.{Store}
use Rattle.sets.specs.Sets.{parts_in}
use Rattle.publishers.specs.Pages.{Bytes, Words, SameSet}
use Rattle.publishers.proofs.Pages.{kept as set-kept, same_parts, expands_in}
use Rattle.pages.specs.Pages.{Page, front, blocks, is_record, parts, tagged, body, sealed_page, with_tag}
use Rattle.pages.proofs.Layouts.{layout_is_record, layout_blocks, layout_parts, record_widths, record_parts, record_length_lem, record_blocks, record_title, record_front, tagged_tag, sealed_page_widths}
use Rattle.pages.proofs.Cuts.{record_heads, record_15, record_1F, record_day, record_start, record_block, record_tag, layout_front, cut_short, run_on, hidden_alike}
use Rattle.catalogue.specs.declared.Entry.{Entry}
use Rattle.catalogue.specs.Catalogue.{entry, title_part}
use Rattle.catalogue.proofs.Catalogues.{entry_yes, entry_no, title_yes, title_no, entry_like, title_part_like}
use Rattle.keyed_pages.specs.Keyed.{seal_under, open_under, tag_under, written, opened}
use Rattle.keyed_pages.specs.Refusals.{for_key, for_keys, write_lengths, write_refusal, read_refusal}
use Rattle.keyed_pages.proofs.Refusals.{lengths_number, write_taken, read_taken, Keys_taken, Write_taken}
use Rattle.keyed_pages.proofs.Alike.{SameMaps, used_maps, set_maps, write_number_like, read_number_like, written_like, opened_like}
use Rattle.keyed_pages.proofs.Trips.{handed, written_is_record, written_parts, written_blocks, written_number, written_opened}
use Rattle.promise.specs.Demands.{SameUsed}
use Rattle.promise.specs.Pages.{PagesReadBack, RecordsOfTheirParts, LaidOut, RecordsExactly, PartsStand, ReadsEntry, ReadsTitle, HiddenPartsAlike, LookTheSame, OpensPage, RightTag, VerifiesThenOpens, WritesPage, WritesParts, CatalogueGets, ReaderGets, PageTravels, PageKey, PageKeys, PageKeyTaken, WritesTaken, AnswersWriting, AnswersEntry, AnswersTitle, ReadsTaken, AnswersReading, RefusedByBoth, NotWholeRefused, SetsKept, WritesBySets, OpensBySets}
use Rattle.promise.proofs.Demands.{kept}
use Rattle.promise.proofs.Stores.{under, expands_as}

-- ---- the record

pub pages_read_back : PagesReadBack
pages_read_back p w =
    let e = layout_blocks p w in
    (layout_is_record p w, layout_parts p w, omega (arith, w.whole))

pub records_of_their_parts : RecordsOfTheirParts
records_of_their_parts r b e = (record_widths r e b, record_parts r e b)

pub records_exactly : RecordsExactly
records_exactly r b = (
  λ e. record { page = parts r; widths = record_widths r e b; laid = sym (record_parts r e b) },
  λ l. ap is_record l.laid ∙ layout_is_record l.page l.widths,
)

pub parts_stand : PartsStand
unfolding parts
parts_stand r b e =
    record {
      long = record_length_lem r e;
      most = record_blocks r e;
      commands = record_heads r e;
      command_15 = record_15 r e;
      command_1F = record_1F r e;
      number = refl;
      day = record_day r e;
      title = record_title r e;
      start = record_start r e;
      sealed = record_block r e;
      tag = record_tag r e;
      covered = record_front r e b;
    }

-- ---- the catalogue reader

pub hidden_parts_alike : HiddenPartsAlike
hidden_parts_alike p q v w a b c d = hidden_alike p q v w a b c d

pub look_the_same : LookTheSame
look_the_same r s d e t u h a b x y = (a ∙ entry_like r s h ∙ sym b, x ∙ title_part_like r s h ∙ sym y)

-- 19 for any other layout
or_else : {A B : Type 0} (r : List ℕ) → Bytes r → (is_record r ≡ false → A) → (is_record r ≡ true → B) → Unless (LaidOut r) A B
or_else {A} {B} r b f g = go (is_record r) refl
  where
    go : (x : Bool) → is_record r ≡ x → Unless (LaidOut r) A B
    go true e = inr ((records_exactly r b).0 e, g e)
    go false e = inl (λ l. false≢true (sym e ∙ (records_exactly r b).1 l), f e)

module _ (r : List ℕ) (b : Bytes r) where
  pub answers_entry : {answer : Entry} → ReadsEntry r answer → AnswersEntry r answer
  unfolding parts
  answers_entry h =
      or_else r b (λ e. h ∙ entry_no r e)
      (λ e.
      let k : blocks r ≡ (length r - 77) / 17 = omega (arith, record_length_lem r e) in
      h ∙ entry_yes r e ∙ ap₂ (λ (d m : ℕ). record { number = 0; page = (parts r).number; day = d; blocks = m }) (record_day r e) k)

  pub answers_title : {title : List ℕ} → ReadsTitle r title → AnswersTitle r title
  answers_title h = or_else r b (λ e. h ∙ title_no r e) (λ e. h ∙ title_yes r e ∙ record_title r e)

-- ---- the keyed reader

-- the tag is right exactly if it is that of all but the last 17 bytes
module _ (store : Store) (k : WorkingKey) (r : List ℕ) (b : Bytes r) (e : is_record r ≡ true) where
  right_iff : (tagged (tag_under store k) (parts r) ≡ true) ↔ RightTag store k r
  unfolding tag_under tagged
  right_iff =
      let f = ap (tag (E (parts_in store k.set) k.n k.words) 16) (record_front r e b) in (
        λ t. sym (record_tag r e) ∙ tagged_tag (tag_under store k) (parts r) t ∙ f,
        λ t. ap (same (tag_under store k (front (parts r)))) (record_tag r e ∙ t ∙ sym f) ∙ same_refl (tag_under store k (front (parts r))),
      )

-- ---- 1, 15 and 12 for both keys

module _ (store : Store) (k : WorkingKey) {number : ℕ} where
  page_key : (further : ℕ) {last : Type 0} → number ≡ for_key store k further → (number ≡ further → last) → PageKey store k number last
  unfolding for_key
  page_key further e f = under store k e (λ e. unless_plain (eqb k.n 1) 12 further e (eqb_iff k.n 1) f)

  -- a key that passes
  key_taken : {further : Type 0} {rest : Type 0} → PageKey store k number further → (further → (number ≡ 0) ↔ rest) → (number ≡ 0) ↔ (PageKeyTaken store k × rest)
  key_taken (inl x) f = (λ z. let n : ⊥ = omega (arith, x.1) in absurd n, λ h. absurd (x.0 (inl h.0.0)))
  key_taken (inr (_, inl x)) f = (λ z. let n : ⊥ = omega (arith, x.1) in absurd n, λ h. absurd (x.0 h.0.1))
  key_taken (inr (_, inr (l, inl x))) f = (λ z. let n : ⊥ = omega (arith, x.1) in absurd n, λ h. absurd (x.0 h.0.0))
  key_taken (inr (_, inr (l, inr (o, u)))) f = (λ z. ((o, l), (f u).0 z), λ h. (f u).1 h.1)

  -- a number that is none of these
  past_key : {further : Type 0} → PageKey store k number further → number ≡ 20 → further
  past_key (inl x) z = let n : ⊥ = omega (arith, x.1) in absurd n
  past_key (inr (_, inl x)) z = let n : ⊥ = omega (arith, x.1) in absurd n
  past_key (inr (_, inr (l, inl x))) z = let n : ⊥ = omega (arith, x.1) in absurd n
  past_key (inr (_, inr (l, inr (o, u)))) z = u

page_keys : (store : Store) (sealing tagging : WorkingKey) (further : ℕ) {number : ℕ} {last : Type 0} → number ≡ for_keys store sealing tagging further → (number ≡ further → last)
    → PageKeys store sealing tagging number last
unfolding for_keys
page_keys store sealing tagging further e f = page_key store sealing (for_key store tagging further) e (λ e. page_key store tagging further e f)

-- ---- the numbers of the writer

pub writes_taken : WritesTaken
writes_taken store sealing tagging title start body destination number u =
    let a = key_taken store sealing u (λ v. key_taken store tagging v (λ w. unless_four w)) in (
      λ z. let h = a.0 z in (h.0, h.1.0, h.1.1.0, h.1.1.1, h.1.1.2, h.1.1.3),
      λ h. a.1 (h.0, (h.1, (h.2, h.3, h.4, h.5))),
    )

pub answers_writing : (store : Store) (sealing tagging : WorkingKey) (page day : ℕ) (title start text : List ℕ) {number : ℕ} {before after : List ℕ}
    → WritesPage store sealing tagging page day title start text number before after → AnswersWriting store sealing tagging title start text number before after
unfolding write_refusal
answers_writing store sealing tagging page day title start text {number} {before} h = (
  page_keys store sealing tagging (write_lengths (length title) (length start) (length text) (length before)) h.0
      (λ e. lengths_number store sealing tagging (length title) (length start) (length text) (length before) e),
  kept number _ before h.1,
)

-- ---- the numbers of the keyed reader

pub reads_taken : ReadsTaken
reads_taken store sealing tagging r destination number u =
    let a = key_taken store sealing u (λ v. key_taken store tagging v (λ w. unless_three w)) in
    (λ z. let h = a.0 z in (h.0, h.1.0, h.1.1.0, h.1.1.1, h.1.1.2), λ h. a.1 (h.0, (h.1, (h.2, h.3, h.4))))

module _ (store : Store) (sealing tagging : WorkingKey) (r : List ℕ) {number : ℕ} (before : List ℕ) {after : List ℕ} (h : OpensPage store sealing tagging r number before after) where
  abbrev second : ℕ
  second = unless (tagged (tag_under store tagging) (parts r)) 20 (unless (eqb (length before) (16 * blocks r)) 5 0)

  -- any other layout
  other_refused : is_record r ≡ false → PageKeys store sealing tagging number (number ≡ 19) × (after ≡ before)
  unfolding read_refusal
  other_refused f =
      let e : number ≡ for_keys store sealing tagging 19 = h.0 ∙ ap (λ (b : Bool). for_keys store sealing tagging (unless b 19 second)) f in
      let u = page_keys store sealing tagging 19 e (λ e. e) in
      (u, kept number _ before h.1 (λ z. refused u z))
    where
      refused : PageKeys store sealing tagging number (number ≡ 19) → number ≡ 0 → ⊥
      refused u z = let a = key_taken store sealing u (λ v. key_taken store tagging {rest = ⊥} v (λ w. (λ z. omega arith, λ x. absurd x))) in (a.0 z).1.1

  module _ (b : Bytes r) where
    pub answers_reading : AnswersReading store sealing tagging r number before after
    unfolding read_refusal
    answers_reading = (
      page_keys store sealing tagging (unless (is_record r) 19 second) h.0 (λ e.
          or_else r b (λ f. e ∙ ap (λ (b : Bool). unless b 19 second) f) (λ t.
          unless_plain (tagged (tag_under store tagging) (parts r)) 20 _ (e ∙ ap (λ (b : Bool). unless b 19 second) t) (right_iff store tagging r b t) (λ e.
          unless_plain (eqb (length before) (16 * blocks r)) 5 0 e (long t) (λ e. e)))),
      kept number _ before h.1,
    )
      where
        long : is_record r ≡ true → (eqb (length before) (16 * blocks r) ≡ true) ↔ (length before ≡ 16 * ((length r - 77) / 17))
        long t =
            let i = eqb_iff (length before) (16 * blocks r) in
            let k : 16 * blocks r ≡ 16 * ((length r - 77) / 17) = omega (arith, record_length_lem r t) in
            (λ x. i.0 x ∙ k, λ x. i.1 (x ∙ sym k))

    pub verifies_then_opens : VerifiesThenOpens store sealing tagging r number before after
    unfolding opened body open_under
    verifies_then_opens = (
      λ z. let t = read_taken store sealing tagging r (length before) h.0 z in
          ((right_iff store tagging r b t.laid).0 t.right, h.1 ∙ ap (λ (n : ℕ). outcome n (opened store sealing r) before) z),
      λ z. (wrong z (past_key store tagging (past_key store sealing answers_reading.0 z) z), answers_reading.1 (λ y. omega arith)),
    )
      where
        wrong : {A B C : Type 0} → number ≡ 20 → Unless A (number ≡ 19) (Unless C (number ≡ 20) (Unless B (number ≡ 5) (number ≡ 0))) → C → ⊥
        wrong z (inl x) c = omega (arith, x.1)
        wrong z (inr (_, inl x)) c = x.0 c
        wrong z (inr (_, inr (_, inl x))) c = omega (arith, x.1)
        wrong z (inr (_, inr (_, inr x))) c = omega (arith, x.1)

refused_by_both : (c : List ℕ) → is_record c ≡ false → RefusedByBoth c
refused_by_both c f = (
  f,
  λ answer h. h ∙ entry_no c f,
  λ title h. h ∙ title_no c f,
  λ store sealing tagging number before after h. other_refused store sealing tagging c before h f,
)

pub not_whole_refused : NotWholeRefused
not_whole_refused r e = (λ k l. refused_by_both (take k r) (cut_short r e k l), λ x more. refused_by_both (r ++ (x ∷ more)) (run_on r e x more))

-- ---- a record written

module _ (s : Store) (sealing tagging : WorkingKey) (page day : ℕ) (title start text before r : List ℕ) (small : (page < 2 ^ 32) × (day < 2 ^ 32))
    (h : WritesPage s sealing tagging page day title start text 0 before r) where
  abbrev taken : Write_taken s sealing tagging (length title) (length start) (length text) (length before)
  taken = write_taken s sealing tagging (length title) (length start) (length text) (length before) h.0 refl

  abbrev made : Page
  made = sealed_page (seal_under s sealing) (tag_under s tagging) page day title start text

  is_record_lem : is_record r ≡ true
  is_record_lem = ap is_record h.1 ∙ written_is_record s sealing tagging page day title start text taken small

  has_parts : parts r ≡ made
  has_parts = ap parts h.1 ∙ written_parts s sealing tagging page day title start text taken small

  has_blocks : blocks r ≡ length text / 16
  has_blocks = ap blocks h.1 ∙ written_blocks s sealing tagging page day title start text taken small

  -- the tag is that of all but the last 17 bytes
  covers : front made ≡ take (length r - 17) r
  unfolding written
  covers =
      layout_front made (sealed_page_widths (seal_under s sealing) (open_under s sealing) (tag_under s tagging) page day title start text (handed s sealing tagging page day title start text taken small)).tag
      ∙ ap (λ (x : List ℕ). take (length x - 17) x) (sym h.1)

  writes_these : parts r ≡ record {
    number = page;
    day = day;
    title = title;
    start = start;
    sealed = cbc_seal (E (parts_in s sealing.set) sealing.n sealing.words) 16 start text;
    tag = tag (E (parts_in s tagging.set) tagging.n tagging.words) 16 (take (length r - 17) r);
  }
  unfolding sealed_page with_tag seal_under tag_under front
  writes_these =
      has_parts
      ∙ ap (λ (x : List ℕ). record {
        number = page;
        day = day;
        title = title;
        start = start;
        sealed = cbc_seal (E (parts_in s sealing.set) sealing.n sealing.words) 16 start text;
        tag = tag (E (parts_in s tagging.set) tagging.n tagging.words) 16 x;
      }) covers

  catalogued : (entry r ≡ record { number = 0; page = page; day = day; blocks = length text / 16 }) × (title_part r ≡ title)
  unfolding sealed_page with_tag
  catalogued = (
    entry_yes r is_record_lem ∙ ap₂ (λ (p : Page) (m : ℕ). record { number = 0; page = p.number; day = p.day; blocks = m }) has_parts has_blocks,
    title_yes r is_record_lem ∙ ap (λ (p : Page). p.title) has_parts,
  )

  module _ (t : Store) (same : SameSet sealing.set s t) (same_tag : SameSet tagging.set s t) where
    there : Keys_taken t sealing tagging
    there =
        record {
          sealing_one = taken.keys.sealing_one;
          sealing_loaded = same.there;
          tagging_one = taken.keys.tagging_one;
          tagging_loaded = same_tag.there;
        }

    read_zero : (room : ℕ) → room ≡ length text → read_refusal t sealing tagging r room ≡ 0
    read_zero room l =
        ap (λ (x : List ℕ). read_refusal t sealing tagging x room) h.1
        ∙ written_number s sealing tagging page day title start text taken small t there (same_parts same_tag) room
        ∙ ap (λ (b : Bool). unless b 5 0) (eq-eqb room (length text) l)

    read_body : Words sealing.words → Bytes start → Bytes text → opened t sealing r ≡ text
    read_body w hs ht =
        ap (opened t sealing) h.1 ∙ written_opened s sealing tagging page day title start text taken small t (same_parts same) w hs ht

pub writes_parts : WritesParts
writes_parts s sealing tagging page day title start text before r p d h =
    (is_record_lem s sealing tagging page day title start text before r (p, d) h, writes_these s sealing tagging page day title start text before r (p, d) h)

pub catalogue_gets : CatalogueGets
catalogue_gets s sealing tagging page day title start text before r answer part p d h e f =
    let c = catalogued s sealing tagging page day title start text before r (p, d) h in
    (e ∙ c.0, f ∙ c.1)

pub reader_gets : ReaderGets
reader_gets s t sealing tagging page day title start text before r room after number same same_tag w p d hs ht h l o =
    let z : number ≡ 0 = o.0 ∙ read_zero s sealing tagging page day title start text before r (p, d) h t same same_tag (length room) l in
    (z, o.1 ∙ ap (λ (n : ℕ). outcome n (opened t sealing r) room) z ∙ read_body s sealing tagging page day title start text before r (p, d) h t same same_tag w hs ht)

-- an expanded key names its set, and its words are the article's with the tables that s has
pub page_travels : PageTravels
page_travels x y s t n l i m k j secret tag-secret e f page day title start text before r room after number xs st ys yt w p d hs ht he ze hf zf h lr o =
    let a = expands_in x s i xs 0 n l secret e (expands_as x n l i secret he 0) ze in
    let b = expands_in y s j ys 0 m k tag-secret f (expands_as y m k j tag-secret hf 0) zf in
    let q = writes_these s e.key f.key page day title start text before r (p, d) h in
    let g =
    reader_gets s t e.key f.key page day title start text before r room after number
    (subst (λ (i : ℕ). SameSet i s t) (sym (ap (λ (k : WorkingKey). k.set) a)) st) (subst (λ (i : ℕ). SameSet i s t) (sym (ap (λ (k : WorkingKey). k.set) b)) yt) w p d hs ht h lr o in (
      ap (λ (p : Page). p.sealed) q ∙ ap (λ (k : WorkingKey). cbc_seal (E (parts_in s k.set) k.n k.words) 16 start text) a,
      ap (λ (p : Page). p.tag) q ∙ ap (λ (k : WorkingKey). tag (E (parts_in s k.set) k.n k.words) 16 (take (length r - 17) r)) b,
      g.0,
      g.1,
    )

-- ---- two calls with keys alike, or with stores alike

alike : (before : List ℕ) {r q y z : ℕ} {u v e f : List ℕ} → r ≡ q → u ≡ v → (y ≡ r) × (e ≡ outcome y u before) → (z ≡ q) × (f ≡ outcome z v before) → (y ≡ z) × (e ≡ f)
alike before n x a b =
    let w = a.0 ∙ n ∙ sym b.0 in
    (w, a.1 ∙ ap₂ (λ (n : ℕ) (x : List ℕ). outcome n x before) w x ∙ sym b.1)

module _ (s t : Store) (k j m o : WorkingKey) (h : SameMaps s t k j) (g : SameMaps s t m o) where
  writes_like : (page day : ℕ) (title start text before : List ℕ) {y z : ℕ} {e f : List ℕ} → WritesPage s k m page day title start text y before e
      → WritesPage t j o page day title start text z before f → (y ≡ z) × (e ≡ f)
  writes_like page day title start text before =
      alike before (write_number_like s t k j m o h g (length title) (length start) (length text) (length before)) (written_like s t k j m o h g page day title start text)

  opens_like : (r before : List ℕ) {y z : ℕ} {e f : List ℕ} → OpensPage s k m r y before e → OpensPage t j o r z before f → (y ≡ z) × (e ≡ f)
  opens_like r before = alike before (read_number_like s t k j m o h g r (length before)) (opened_like s t k j m o h g r)

pub sets_kept : SetsKept
sets_kept s cs sealing tagging e f = (set-kept sealing.set s cs e, set-kept tagging.set s cs f)

pub writes_by_sets : WritesBySets
writes_by_sets s t sealing tagging page day title start text before y z e f h a b =
    writes_like s t sealing sealing tagging tagging (set_maps s t sealing h.0) (set_maps s t tagging h.1) page day title start text before a b

pub opens_by_sets : OpensBySets
opens_by_sets s t sealing tagging r before y z e f h a b =
    opens_like s t sealing sealing tagging tagging (set_maps s t sealing h.0) (set_maps s t tagging h.1) r before a b

-- beside the used words the calls are given one store, one set named by either key and the same rest
pub writes_used : (s t : Store) (k j m o : WorkingKey) (g g' : ℕ × ℕ × List ℕ × List ℕ × List ℕ × List ℕ) {y z : ℕ} {e f : List ℕ} → SameUsed k j → SameUsed m o
    → ◌≡◌ {A = Store × ℕ × ℕ × (ℕ × ℕ × List ℕ × List ℕ × List ℕ × List ℕ)} (s, k.set, m.set, g) (t, j.set, o.set, g')
    → WritesPage s k m g.0 g.1 g.2 g.3 g.4 y g.5 e → WritesPage t j o g'.0 g'.1 g'.2 g'.3 g'.4 z g'.5 f → (y ≡ z) × (e ≡ f)
writes_used s t k j m o g g' {z = z} {f = f} u v p a b =
    writes_like s s k j m o (used_maps s k j u.0 u.1 (ap (λ x. x.1) p)) (used_maps s m o v.0 v.1 (ap (λ x. x.2) p)) g.0 g.1 g.2 g.3 g.4 g.5 a
    (subst (λ (x : Store × ℕ × ℕ × (ℕ × ℕ × List ℕ × List ℕ × List ℕ × List ℕ)). WritesPage x.0 j o x.3.0 x.3.1 x.3.2 x.3.3 x.3.4 z x.3.5 f) (sym p) b)

pub opens_used : (s t : Store) (k j m o : WorkingKey) (g g' : List ℕ × List ℕ) {y z : ℕ} {e f : List ℕ} → SameUsed k j → SameUsed m o
    → ◌≡◌ {A = Store × ℕ × ℕ × (List ℕ × List ℕ)} (s, k.set, m.set, g) (t, j.set, o.set, g')
    → OpensPage s k m g.0 y g.1 e → OpensPage t j o g'.0 z g'.1 f → (y ≡ z) × (e ≡ f)
opens_used s t k j m o g g' {z = z} {f = f} u v p a b =
    opens_like s s k j m o (used_maps s k j u.0 u.1 (ap (λ x. x.1) p)) (used_maps s m o v.0 v.1 (ap (λ x. x.2) p)) g.0 g.1 a
    (subst (λ (x : Store × ℕ × ℕ × (List ℕ × List ℕ)). OpensPage x.0 j o x.3.0 z x.3.1 f) (sym p) b)
