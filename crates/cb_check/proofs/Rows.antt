-- Every number in a row is the place of a row, and every name in it is a name.
use Rattle.std.proofs.Common.{◌≡◌, ℕ, zero, suc, ◌+◌, ◌<◌, true, false, List, [], ◌∷◌, ◌++◌, length, Option, Some, None, refl, sym, ap, subst, ◌∙◌, arith}
use Rattle.std.specs.Prelude.{slice_get, IfSome}
use Rattle.std.specs.List.{All, flat_map}
use Rattle.std.proofs.lemmas.Option.{slice_get_within}
use Rattle.cb_text.specs.Names.{IsName}
use Rattle.cb_model.specs.declared.id.ClassId.{ClassId}
use Rattle.cb_model.specs.declared.id.RelId.{RelId}
use Rattle.cb_model.specs.declared.tables.Place.{Place}
use Rattle.cb_model.specs.declared.tables.Tables.{Tables}
use Rattle.cb_model.specs.Classes.{NamesClass}
use Rattle.cb_model.specs.WellTyped.{Member as Declaration, IsClass, IsEvent, IsRelation, IsPlace, HasPlaces, HasNames}
use Rattle.cb_grammar.specs.declared.tree.Token.{Token}
use Rattle.cb_grammar.specs.declared.tree.Tree.{Tree}
use Rattle.cb_grammar.specs.declared.tree.ClassDecl.{ClassDecl}
use Rattle.cb_grammar.specs.declared.tree.Member.{Member}
use Rattle.cb_grammar.specs.declared.tree.Member.TheVariants.{Event, Relation, Rule, Block, Hide}
use Rattle.cb_grammar.specs.declared.lexeme.Lexeme.{Lexeme}
use Rattle.cb_grammar.specs.declared.lexeme.Lexeme.TheVariants as lexemes
use Rattle.cb_grammar.specs.Grammar.{NameFits, NamesFit, member_tokens, parent_tokens, class_tokens, tree_tokens}
use Rattle.cb_rules.specs.Classes.{ClassAt, declared}
use Rattle.cb_check.specs.Stands.{PlaceDecl, Stands, StandsParent, StandsPath, StandsBlock, StandsHide, NameDecl, blocks_declared, hides_declared, declared_from, block_in, hide_in}
use Rattle.cb_check.proofs.Places.{slice_get-left, slice_get-right, all_from, at_all, zip_left, among_flat_map}
use Rattle.cb_check.proofs.Sections.{declared_by}
use Rattle.cb_check.proofs.Given.{Gives, from_some}
use Rattle.cb_check.proofs.Above.{class_row, as_many, event_given, relation_given, rule_given}

-- the name that a member declares is among its tokens
name_fits : (member : Member) (token : Token) → declared member ≡ Some token → All NameFits (member_tokens member) → IsName token.name
name_fits (Event name true true) token is fit = from_some (λ (t : Token). IsName t.name) is (fit 2 lexemes.Semicolon (omega arith))
name_fits (Event name true false) token is fit = from_some (λ (t : Token). IsName t.name) is (fit 1 lexemes.Semicolon (omega arith))
name_fits (Event name false true) token is fit = from_some (λ (t : Token). IsName t.name) is (fit 1 lexemes.Semicolon (omega arith))
name_fits (Event name false false) token is fit = from_some (λ (t : Token). IsName t.name) is (fit 1 lexemes.Semicolon (omega arith))
name_fits (Relation name target true inverse) token is fit = from_some (λ (t : Token). IsName t.name) is (fit 1 lexemes.Semicolon (omega arith))
name_fits (Relation name target false inverse) token is fit = from_some (λ (t : Token). IsName t.name) is (fit 1 lexemes.Semicolon (omega arith))
name_fits (Rule name cause path effect) token is fit = from_some (λ (t : Token). IsName t.name) is (fit 1 lexemes.Semicolon (omega arith))
name_fits member token is fit = absurd (cc)

module _ (tree : Tree) (fit : NamesFit tree) where
  class_fits : (n : ℕ) (decl : ClassDecl) → ClassAt tree n decl → (j : ℕ) (k : Lexeme) → slice_get (class_tokens decl) j ≡ Some k → NameFits k
  class_fits n decl decl_is j k k_is =
      let among = among_flat_map class_tokens tree.classes n decl j k decl_is k_is in
      at_all NameFits (tree_tokens tree) among.0 k fit among.1

  -- what a class has, it has under a name
  given_fits : (k : ℕ) (which : Declaration) (name : List ℕ) → Gives tree k which name → IsName name
  given_fits k which name g =
      let (token, is, named) = g.named in
      subst IsName named (name_fits g.member token is (all_from NameFits (member_tokens g.member) (λ j lexeme lexeme_is.
      let among = among_flat_map member_tokens g.decl.members g.at g.member j lexeme g.member_is lexeme_is in
      let inside = slice_get-left (flat_map member_tokens g.decl.members) (lexemes.Close ∷ []) among.0 lexeme among.1 in
      let after = slice_get-right (parent_tokens g.decl.parent) (lexemes.Open ∷ (flat_map member_tokens g.decl.members ++ lexemes.Close ∷ [])) (suc among.0) in
      class_fits g.class g.decl g.decl_is (suc (suc (length (parent_tokens g.decl.parent) + suc among.0))) lexeme (after ∙ inside))))

  module _ (t : Tables) (stands : Stands tree t) where
    pub have_names : HasNames t
    have_names = record {
      classes = all_from (λ row. IsName row.name) t.classes (λ i row is.
          let (decl, decl_is, says) = class_row tree t stands i row is in
          subst IsName (sym says.0) (class_fits i decl decl_is 1 (lexemes.Name decl.name) refl));
      events = all_from (λ row. IsName row.name) t.events (λ i row is. given_fits row.class.0 _ row.name (event_given tree t stands row.class i row is (0, refl)).0);
      relations = all_from (λ row. IsName row.name) t.relations (λ i row is. given_fits row.class.0 _ row.name (relation_given tree t stands row.class i row is (0, refl)).2);
      rules = all_from (λ row. IsName row.name) t.rules (λ i row is. given_fits row.class.0 _ row.name (rule_given tree t stands row.class i row is (0, refl)).2);
    }

block_class : (c : ClassId) (member : Member) (decl : NameDecl) → block_in c member ≡ Some decl → decl.class ≡ c
block_class c (Block name) decl is = from_some (λ (d : NameDecl). d.class ≡ c) is refl
block_class c member decl is = absurd (cc)

pub hide_class : (c : ClassId) (member : Member) (decl : NameDecl) → hide_in c member ≡ Some decl → decl.class ≡ c
hide_class c (Hide name) decl is = from_some (λ (d : NameDecl). d.class ≡ c) is refl
hide_class c member decl is = absurd (cc)

module _ (tree : Tree) (t : Tables) (stands : Stands tree t) where
  is_class : (c : ClassId) (decl : ClassDecl) → ClassAt tree c.0 decl → IsClass t c
  is_class c decl is = omega (arith, slice_get_within tree.classes c.0 decl is, as_many tree t stands)

  given_class : (c : ClassId) (k : ℕ) (which : Declaration) (name : List ℕ) (g : Gives tree k which name) → g.class ≡ c.0 → IsClass t c
  given_class c k which name g same = is_class c g.decl (subst (λ n. ClassAt tree n g.decl) same g.decl_is)

  -- a block or a hide stands in a class
  name_class : (kind : ClassId → Member → Option NameDecl) → ((c : ClassId) (member : Member) (decl : NameDecl) → kind c member ≡ Some decl → decl.class ≡ c) →
      (i : ℕ) (decl : NameDecl) → slice_get (declared_from kind 0 tree.classes) i ≡ Some decl → IsClass t decl.class
  name_class kind class i decl is =
      let from = declared_by kind tree.classes i decl is in
      subst (IsClass t) (sym (class from.class from.member decl from.gives)) (is_class from.class from.decl from.decl_is)

  named_is_class : (name : List ℕ) (c : ClassId) → NamesClass t name c → IsClass t c
  named_is_class name c (row, is, named) = slice_get_within t.classes c.0 row is

  parent_is_class : (o : Option Token) (p : Option ClassId) → StandsParent t o p → IfSome p (IsClass t)
  parent_is_class None None says = tt
  parent_is_class None (Some c) says = absurd says
  parent_is_class (Some token) None says = tt
  parent_is_class (Some token) (Some c) says = named_is_class token.name c says

  path_places : (c : ClassId) (steps : List PlaceDecl) (places : List Place) (d : ClassId) → StandsPath t c steps places d → (i : ℕ) (p : Place) → slice_get places i ≡ Some p → IsRelation t p.rel
  path_places c [] [] d says i p is = absurd (cc)
  path_places c [] (q ∷ qs) d says i p is = absurd says
  path_places c (s ∷ steps) [] d says i p is = absurd says
  path_places c (s ∷ steps) (q ∷ qs) d (named, plus, says) zero p is = from_some (IsPlace t) is (slice_get_within t.relations q.rel.0 named.0.row named.0.is)
  path_places c (s ∷ steps) (q ∷ qs) d (named, plus, says) (suc i) p is = path_places named.0.row.target steps qs d says i p is

  pub have_places : HasPlaces t
  have_places = record {
    classes = all_from (λ row. IfSome row.parent (IsClass t)) t.classes (λ i row is.
        let (decl, decl_is, says) = class_row tree t stands i row is in
        parent_is_class decl.parent row.parent says.1);
    events = all_from (λ row. IsClass t row.class) t.events (λ i row is.
        let (g, class, gives) = event_given tree t stands row.class i row is (0, refl) in
        given_class row.class row.class.0 _ row.name g class);
    relations = all_from (λ row. IsClass t row.class × IsClass t row.target × IsRelation t row.inverse) t.relations (λ i row is.
        let (decl, says, g, class, gives) = relation_given tree t stands row.class i row is (0, refl) in (
          given_class row.class row.class.0 _ row.name g (class ∙ ap (λ (c : ClassId). c.0) (sym says.class)),
          named_is_class decl.target row.target says.target,
          slice_get_within t.relations row.inverse.0 says.inverse.0 says.inverse.1,
        ));
    rules = all_from (λ row. IsClass t row.class × IsEvent t row.cause × All (IsPlace t) row.path × IsEvent t row.effect) t.rules (λ i row is.
        let (decl, says, g, class, gives) = rule_given tree t stands row.class i row is (0, refl) in (
          given_class row.class row.class.0 _ row.name g (class ∙ ap (λ (c : ClassId). c.0) (sym says.class)),
          slice_get_within t.events row.cause.0 says.cause.0.row says.cause.0.is,
          all_from (IsPlace t) row.path (path_places row.class decl.path row.path says.reached says.path),
          slice_get_within t.events row.effect.0 says.effect.0.row says.effect.0.is,
        ));
    blocks = all_from (λ row. IsClass t row.class × (row.rule < length t.rules)) t.blocks (λ i row is.
        let (decl, decl_is, says) = zip_left (StandsBlock t) (blocks_declared tree) t.blocks i row stands.blocks is in
        (subst (IsClass t) (sym says.class) (name_class block_in block_class i decl decl_is), slice_get_within t.rules row.rule says.rule says.is));
    hides = all_from (λ row. IsClass t row.class × IsEvent t row.event) t.hides (λ i row is.
        let (decl, decl_is, says) = zip_left (StandsHide t) (hides_declared tree) t.hides i row stands.hides is in
        (subst (IsClass t) (sym says.class) (name_class hide_in hide_class i decl decl_is), slice_get_within t.events row.event.0 says.named.0.row says.named.0.is));
  }
