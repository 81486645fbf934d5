-- What the catalogue reader answers (document 02, Job 9): it 'has no key: it gets number, day, block count and the title as that part of
-- the record itself'; it 'refuses any other layout with 19'.
-- Assumes nothing.
use Rattle.std.specs.Prelude.{ℕ, List, []}
use Rattle.forms.specs.Lists.{when}
use Rattle.catalogue.specs.declared.Entry.{Entry}
use Rattle.pages.specs.Pages.{blocks, is_record, parts}

-- the numbers; zeros beside 19
unfoldable pub entry : List ℕ → Entry
entry r =
    when (is_record r) (record { number = 0; page = (parts r).number; day = (parts r).day; blocks = blocks r })
    (record { number = 19; page = 0; day = 0; blocks = 0 })

-- the title; an empty part where the record is refused
unfoldable pub title_part : List ℕ → List ℕ
title_part r = when (is_record r) (parts r).title []
