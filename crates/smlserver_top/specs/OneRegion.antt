-- States in which the global region is the only one, and where no frame and no handler stands.
use Rattle.std.specs.Prelude.{ℕ, List, [], ◌∷◌}
use Rattle.kam_code.specs.State.{Region, State, html}

-- the global region alone
abbrev pub global : List ℕ → List Region
global words = record { serial = 1; words = words } ∷ []

-- such a state, with its charge
abbrev pub one_region : List (List ℕ × List ℕ) → List (List ℕ) → ℕ → List ℕ → List ℕ → List ℕ → ℕ → State
one_region form databases address stack region body charge = record {
  form = form;
  databases = databases;
  address = address;
  stack = stack;
  base = 0;
  closure = 0;
  frames = [];
  regions = global region;
  made = 1;
  handlers = [];
  body = body;
  status = 200;
  content_type = html;
  charge = charge;
}
