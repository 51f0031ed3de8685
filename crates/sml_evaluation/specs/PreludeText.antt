-- The text of the prelude, whose declarations come before every script's.
use Rattle.std.specs.Prelude.{ℕ, List, ◌++◌, codes}

-- the prelude, line by line, each ended by LF
abbrev pub prelude_text : List ℕ
prelude_text =
    codes "fun not true = false | not false = true\n"
    ++ codes "fun ignore _ = ()\n"
    ++ codes "fun op before (a, ()) = a\n"
    ++ codes "fun op o (f, g) = fn x => f (g x)\n"
    ++ codes "fun op @ (nil, ys) = ys | op @ (x :: xs, ys) = x :: (xs @ ys)\n"
    ++ codes "fun null nil = true | null _ = false\n"
    ++ codes "fun hd nil = raise Empty | hd (x :: _) = x\n"
    ++ codes "fun tl nil = raise Empty | tl (_ :: xs) = xs\n"
    ++ codes "fun length nil = 0 | length (_ :: xs) = 1 + length xs\n"
    ++ codes "fun map f nil = nil | map f (x :: xs) = let val y = f x in y :: map f xs end\n"
    ++ codes "fun app f nil = () | app f (x :: xs) = (f x; app f xs)\n"
    ++ codes "fun foldl f a nil = a | foldl f a (x :: xs) = foldl f (f (x, a)) xs\n"
    ++ codes "fun foldr f a nil = a | foldr f a (x :: xs) = f (x, foldr f a xs)\n"
    ++ codes "fun rev xs = foldl (fn (x, a) => x :: a) nil xs\n"
    ++ codes "fun isSome (SOME _) = true | isSome NONE = false\n"
    ++ codes "fun valOf (SOME x) = x | valOf NONE = raise Option\n"
    ++ codes "fun getOpt (SOME x, _) = x | getOpt (NONE, y) = y\n"
    ++ codes "fun explode s = let fun go n a = if n < 0 then a else go (n - 1) (String.sub (s, n) :: a)\n"
    ++ codes "  in go (size s - 1) nil end\n"
    ++ codes "fun implode cs = concat (map str cs)\n"
    ++ codes "fun String.translate f s = concat (map f (explode s))\n"
    ++ codes "fun Web.quot q = concat (map (fn QUOTE s => s | ANTIQUOTE s => s) q)\n"
    ++ codes "fun Web.htmlencode s = String.translate (fn #\"&\" => \"&amp;\" | #\"<\" => \"&lt;\"\n"
    ++ codes "  | #\">\" => \"&gt;\" | #\"\\\"\" => \"&quot;\" | c => str c) s\n"
    ++ codes "fun Web.Db.qq s = String.translate (fn #\"'\" => \"''\" | c => str c) s\n"
    ++ codes "fun Web.Db.qqq s = \"'\" ^ Web.Db.qq s ^ \"'\"\n"
    ++ codes "fun Web.Cache.memoize c f k = case Web.Cache.lookup c k of SOME v => v\n"
    ++ codes "  | NONE => let val v = f k val _ = Web.Cache.insert (c, k, v) in v end\n"
