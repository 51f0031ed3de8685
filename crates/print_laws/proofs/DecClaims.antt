-- What is printed of a declaration of values is one again; quotations and `let`.
use Rattle.std.proofs.Common.{◌≡◌, ℕ, List, [], ◌∷◌, ◌++◌, refl, sym, subst, map, append_assoc}
use Rattle.std.specs.Prelude.{codes, flat_map, Bool, true, false}
use Rattle.sml_syntax.specs.declared.token.Token.{Token}
use Rattle.sml_syntax.specs.declared.token.TokenForm.TheVariants as f
use Rattle.sml_syntax.specs.declared.tree.Span.{Span}
use Rattle.sml_syntax.specs.declared.tree.Pat.{Pat}
use Rattle.sml_syntax.specs.declared.tree.Piece.{Piece}
use Rattle.sml_syntax.specs.declared.tree.Piece.TheVariants as piece
use Rattle.sml_syntax.specs.declared.tree.Exp.{Exp}
use Rattle.sml_syntax.specs.declared.tree.ExpForm.TheVariants as e
use Rattle.sml_syntax.specs.declared.tree.Dec.{Dec}
use Rattle.sml_syntax.specs.declared.tree.DecForm.TheVariants as d
use Rattle.grammar_rules.specs.Programs.{Each}
use Rattle.grammar_rules.specs.Nodes.{exp_at, dec_at, span_of, extent}
use Rattle.grammar_rules.specs.Grammar.{Is, exp_tree, exps_tree, pat_tree, text_tree, pieces_tree, dec_tree, decs_tree, binds_tree, pat, exps, antiquoted, quoted, text_part, dec, decs, binds, atx_quote, atx_let, quoted_last, quoted_more, no_text, some_text, decs_none, decs_more, dec_val, dec_local, binds_one, binds_more}
use Rattle.print_laws.specs.SameTree.{same_quote, same_let, plain_piece, anti_piece, no_pieces, no_decs, more_decs, same_val, same_local, no_binds, more_binds}
use Rattle.print_laws.specs.Printing.{parted, pat_forms, exps_forms, exp_forms, exp_ink, piece_forms, plain_forms, dec_forms, bind_forms}
use Rattle.print_laws.proofs.Lists.{parted_map, flat_map_map}
use Rattle.print_laws.proofs.Bearing.{At, Split, none, one, word, both, bin, wrap, tri}
use Rattle.print_laws.proofs.Made.{ink-Quote, ink-Let, piece-Plain, piece-Anti, dec-Val, dec-Local}
use Rattle.print_laws.proofs.Claims.{Of, Many, LevelOf, PatClaim, ExpClaim, mark, nil_end, parted_at, row_at, each_map}
use Rattle.print_laws.proofs.PatternClaims.{whole_pat_at}
use Rattle.print_laws.proofs.ExpClaims.{by_atx, solid, WholeOf, exps_at, Behind, behind_at}

-- quotations
abbrev pub QuotedAt : List Piece → Type 0
QuotedAt ps = At (Of pieces_tree quoted ps) (flat_map piece_forms ps)

text_at : (w : List ℕ) → At (λ ts. Is text_part ts (text_tree w) []) (plain_forms w)
text_at [] = none (λ ts. Is text_part ts (text_tree []) []) no_text
text_at (b ∷ bs) = one (λ ts. Is text_part ts (text_tree (b ∷ bs)) []) (f.Plain (b ∷ bs)) (λ t h. some_text t b bs h)

plain_at : (w : List ℕ) → At (λ ts. Is text_part ts (text_tree w) []) (piece_forms (piece.Plain w))
plain_at w = subst (At (λ ts. Is text_part ts (text_tree w) [])) (sym (piece-Plain w)) (text_at w)

pub last_quoted : (w : List ℕ) → QuotedAt (piece.Plain w ∷ [])
last_quoted w = nil_end (Of pieces_tree quoted (piece.Plain w ∷ [])) (piece_forms (piece.Plain w)) (λ ts b. (piece.Plain w ∷ [], quoted_last (plain_at w ts b), plain_piece w no_pieces))

pub more_quoted : (w : List ℕ) (x : Exp) (ps : List Piece) → ExpClaim x → QuotedAt ps → QuotedAt (piece.Plain w ∷ piece.Anti x ∷ ps)
more_quoted w x ps a c =
    both (λ ts. Is text_part ts (text_tree w) []) (λ us. (ts : List Token) × (vs : List Token) × (us ≡ ts ++ vs) × Of exp_tree antiquoted x ts × Of pieces_tree quoted ps vs) S (piece_forms (piece.Plain w)) (piece_forms (piece.Anti x) ++ flat_map piece_forms ps)
    (λ ts us t q. subst (λ z. S (ts ++ z)) (sym q.2) (subst S (append_assoc ts q.0 q.1) (piece.Plain w ∷ piece.Anti q.3.0 ∷ q.4.0, quoted_more t q.3.1 q.4.1, plain_piece w (anti_piece q.3.2 q.4.2))))
    (plain_at w)
    (both (Of exp_tree antiquoted x) (Of pieces_tree quoted ps) (λ us. (ts : List Token) × (vs : List Token) × (us ≡ ts ++ vs) × Of exp_tree antiquoted x ts × Of pieces_tree quoted ps vs) (piece_forms (piece.Anti x)) (flat_map piece_forms ps)
    (λ ts us q r. (ts, us, refl, q, r)) (subst (At (Of exp_tree antiquoted x)) (sym (piece-Anti x)) a.1) c)
  where
    S : List Token → Type 0
    S = Of pieces_tree quoted (piece.Plain w ∷ piece.Anti x ∷ ps)

pub quote_claim : (s : Span) (ps : List Piece) → QuotedAt ps → ExpClaim (exp_at s (e.Quote ps))
quote_claim s ps c = solid (exp_at s (e.Quote ps)) _ (ink-Quote s ps) refl
    (wrap (Of pieces_tree quoted ps) (LevelOf 15 false (exp_at s (e.Quote ps))) f.QuoteFrom (flat_map (λ p. p) (map piece_forms ps)) f.QuoteTo
    (λ v ts w h g q. (exp_at (span_of v.span.from w.span.to) (e.Quote q.0), by_atx (atx_quote v w h q.1 g), same_quote s (span_of v.span.from w.span.to) q.2))
    (subst (At (Of pieces_tree quoted ps)) (sym (flat_map_map (λ p. p) piece_forms ps)) c))
    tt tt

-- declarations
abbrev pub DecClaim : Bool → Dec → Type 0
DecClaim i x = At (Of dec_tree (dec i) x) (dec_forms x)

pub decs_at : (ds : List Dec) → Each (DecClaim true) ds → At (Of decs_tree decs ds) (flat_map (λ d. d) (map dec_forms ds))
decs_at ds h = subst (At (Of decs_tree decs ds)) (sym (flat_map_map (λ d. d) dec_forms ds))
    (row_at dec_forms (Of dec_tree (dec true)) (Of decs_tree decs) ([], decs_none, no_decs)
    (λ x xs ts us q r. (q.0 ∷ r.0, decs_more q.1 r.1, more_decs q.2 r.2)) ds h)

pub let_claim : (s : Span) (ds : List Dec) (x : Exp) (xs : List Exp) → Each (DecClaim true) ds → Each ExpClaim (x ∷ xs) → ExpClaim (exp_at s (e.Let ds (x ∷ xs)))
let_claim s ds x xs h g = solid (exp_at s (e.Let ds (x ∷ xs))) _ (ink-Let s ds (x ∷ xs)) refl
    (tri (Behind (codes "let") (Of decs_tree decs ds)) (Many exps_tree (exps (codes ";")) (x ∷ xs)) (λ ts. ts ≡ []) S
    (f.Mark (codes "let") ∷ flat_map (λ d. d) (map dec_forms ds)) (f.Mark (codes "in")) (exps_forms (codes ";") (map exp_ink (x ∷ xs))) (f.Mark (codes "end")) []
    (λ ts v us w ws k l q r n. subst (λ z. S ((ts ++ v ∷ us) ++ w ∷ z)) (sym n) (subst (λ z. S ((z ++ v ∷ us) ++ w ∷ [])) (sym q.2)
    (exp_at (span_of q.0.span.from w.span.to) (e.Let q.4.0 (r.0 ∷ r.1)), by_atx (atx_let q.0 v w (mark q.3) q.4.1 (mark k) r.2 (mark l)), same_let s (span_of q.0.span.from w.span.to) q.4.2 r.3)))
    (behind_at (codes "let") (Of decs_tree decs ds) (flat_map (λ d. d) (map dec_forms ds)) (decs_at ds h)) (exps_at (codes ";") x xs g) (none (λ ts. ts ≡ []) refl))
    tt tt
  where
    S : List Token → Type 0
    S = LevelOf 15 false (exp_at s (e.Let ds (x ∷ xs)))

pub local_claim : (i : Bool) (s : Span) (ds es : List Dec) → Each (DecClaim true) ds → Each (DecClaim true) es → DecClaim i (dec_at s (d.Local ds es))
local_claim i s ds es h g = subst (At S) (sym (dec-Local s ds es))
    (tri (Behind (codes "local") (Of decs_tree decs ds)) (Of decs_tree decs es) (λ ts. ts ≡ []) S
    (f.Mark (codes "local") ∷ flat_map (λ d. d) (map dec_forms ds)) (f.Mark (codes "in")) (flat_map (λ d. d) (map dec_forms es)) (f.Mark (codes "end")) []
    (λ ts v us w ws k l q r n. subst (λ z. S ((ts ++ v ∷ us) ++ w ∷ z)) (sym n) (subst (λ z. S ((z ++ v ∷ us) ++ w ∷ [])) (sym q.2)
    (dec_at (span_of q.0.span.from w.span.to) (d.Local q.4.0 r.0), dec_local q.0 v w (mark q.3) q.4.1 (mark k) r.1 (mark l), same_local s (span_of q.0.span.from w.span.to) q.4.2 r.2)))
    (behind_at (codes "local") (Of decs_tree decs ds) (flat_map (λ d. d) (map dec_forms ds)) (decs_at ds h)) (decs_at es g) (none (λ ts. ts ≡ []) refl))
  where
    S : List Token → Type 0
    S = Of dec_tree (dec i) (dec_at s (d.Local ds es))

-- bindings
abbrev pub BindClaim : Pat × Exp → Type 0
BindClaim b = PatClaim b.0 × ExpClaim b.1

abbrev BindOf : Pat × Exp → List Token → Type 0
BindOf b = Split (Of pat_tree pat b.0) (f.Mark (codes "=")) (WholeOf b.1)

bind_at : (b : Pat × Exp) → BindClaim b → At (BindOf b) (bind_forms (b.0, exp_ink b.1))
bind_at b c = bin (Of pat_tree pat b.0) (WholeOf b.1) (BindOf b) (pat_forms b.0) (f.Mark (codes "=")) (exp_forms b.1) (λ ts w us k q r. (ts, w, us, refl, k, q, r)) (whole_pat_at b.0 c.0) c.1.0

binds_at : (b : Pat × Exp) (bs : List (Pat × Exp)) → Each BindClaim (b ∷ bs) → At (Many binds_tree binds (b ∷ bs)) (parted (codes "and") (λ (b : Pat × Exp). bind_forms (b.0, exp_ink b.1)) (b ∷ bs))
binds_at b bs h = parted_at (λ (b : Pat × Exp). bind_forms (b.0, exp_ink b.1)) (codes "and") BindOf (Many binds_tree binds)
    (λ y ts q. subst (Many binds_tree binds (y ∷ [])) (sym q.3) ((q.5.0, q.6.0), [], binds_one q.1 q.5.1 (mark q.4) q.6.1.anywhere, more_binds q.5.2 q.6.2 no_binds))
    (λ y z zs ts w us k q r. subst (λ n. Many binds_tree binds (y ∷ z ∷ zs) (n ++ w ∷ us)) (sym q.3) ((q.5.0, q.6.0), r.0 ∷ r.1, binds_more q.1 w q.5.1 (mark q.4) q.6.1.anywhere (mark k) r.2, more_binds q.5.2 q.6.2 r.3))
    b bs (each_map BindClaim (λ b. At (BindOf b) (bind_forms (b.0, exp_ink b.1))) bind_at (b ∷ bs) h)

pub val_claim : (i : Bool) (s : Span) (b : Pat × Exp) (bs : List (Pat × Exp)) → Each BindClaim (b ∷ bs) → DecClaim i (dec_at s (d.Val (b ∷ bs)))
val_claim i s b bs h = subst (At S) (sym (dec-Val s (b ∷ bs)))
    (word (Many binds_tree binds (b ∷ bs)) S (f.Mark (codes "val")) (parted (codes "and") bind_forms (map (λ (b : Pat × Exp). (b.0, exp_ink b.1)) (b ∷ bs)))
    (λ w ts k q. (dec_at (extent (w ∷ ts)) (d.Val (q.0 ∷ q.1)), dec_val w (mark k) q.2, same_val s (extent (w ∷ ts)) q.3))
    (subst (At (Many binds_tree binds (b ∷ bs))) (sym (parted_map (codes "and") bind_forms (λ (b : Pat × Exp). (b.0, exp_ink b.1)) (b ∷ bs))) (binds_at b bs h)))
  where
    S : List Token → Type 0
    S = Of dec_tree (dec i) (dec_at s (d.Val (b ∷ bs)))
