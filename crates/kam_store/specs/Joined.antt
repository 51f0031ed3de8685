-- The words and the numbers of pages in a row.
use Rattle.std.specs.Prelude.{ℕ, List, map}
use Rattle.std.specs.List.{flat_map}
use Rattle.page_pool.specs.declared.page.Page.{Page}
use Rattle.page_pool.specs.PageWords.{number_of, words_of}

-- their words, one page after the other
abbrev pub joined : List Page → List ℕ
joined pages = flat_map words_of pages

-- their numbers
abbrev pub numbers : List Page → List ℕ
numbers pages = map number_of pages
