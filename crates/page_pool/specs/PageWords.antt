-- What contracts see of a page.
use Rattle.std.specs.Prelude.{ℕ, List, map}
use Rattle.page_pool.specs.declared.page.Page.{Page}

-- its number in its pool
abbrev pub number_of : Page → ℕ
number_of p = p.number

-- the numbers of some pages
abbrev pub numbers : List Page → List ℕ
numbers pages = map number_of pages

-- what its words say
abbrev pub words_of : Page → List ℕ
words_of p = p.words.items
