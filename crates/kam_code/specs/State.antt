-- What the machine holds. Stacks have their top first; words are numbers below 2 ^ 64.
use Rattle.std.specs.Prelude.{ℕ, List, [], ◌∷◌, codes}

-- a live region: its serial, and its words
pub record Region : Type 0 where
  pub serial : ℕ
  pub words : List ℕ

-- what a call saves: where it goes on, and the frame's base and closure
pub record Frame : Type 0 where
  pub address : ℕ
  pub base : ℕ
  pub closure : ℕ

-- where a raise goes: how many words, live regions and frames are kept, and the frame and address there
pub record Handler : Type 0 where
  pub words : ℕ
  pub regions : ℕ
  pub frames : ℕ
  pub base : ℕ
  pub closure : ℕ
  pub address : ℕ

-- the machine between two steps
pub record State : Type 0 where
  -- the request's form, and the names of the databases
  pub form : List (List ℕ × List ℕ)
  pub databases : List (List ℕ)
  -- the number of the next instruction
  pub address : ℕ
  pub stack : List ℕ
  -- how many words of the stack lie below the frame, and the closure that runs
  pub base : ℕ
  pub closure : ℕ
  -- what the calls saved, the newest first
  pub frames : List Frame
  -- the live regions, the newest first, and how many were ever made, which is the newest serial
  pub regions : List Region
  pub made : ℕ
  pub handlers : List Handler
  -- the page so far
  pub body : List ℕ
  pub status : ℕ
  pub content_type : List ℕ
  -- the steps made and the words written into regions
  pub charge : ℕ

-- the content type of a page that sets none
unfoldable pub html : List ℕ
html = codes "text/html; charset=utf-8"

-- before the first instruction: the one live region is the global one, which is empty
abbrev pub start : List (List ℕ × List ℕ) → List (List ℕ) → State
start form databases = record {
  form = form;
  databases = databases;
  address = 0;
  stack = [];
  base = 0;
  closure = 0;
  frames = [];
  regions = record { serial = 1; words = [] } ∷ [];
  made = 1;
  handlers = [];
  body = [];
  status = 200;
  content_type = html;
  charge = 0;
}
