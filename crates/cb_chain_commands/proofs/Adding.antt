-- Chains that are found one after the other.
use Rattle.std.proofs.Common.{◌≡◌, List, [], ◌∷◌, ◌++◌, ℕ, ◌+◌, length, map, refl, sym, ap, subst, ◌∙◌, arith}
use Rattle.std.specs.Prelude.{Option, None, Some, slice_get}
use Rattle.std.specs.List.{All, AllZip, flat_map}
use Rattle.std.proofs.lemmas.Grind.{flat_map-append}
use Rattle.std.proofs.lemmas.List.{append-nil, length-append, get_or_append_left, get_or-append-add}
use Rattle.std.proofs.lemmas.List.Elements.{All-nil, All-cons}
use Rattle.std.proofs.lemmas.Option.{get_or_from_slice_get}
use Rattle.cb_model.specs.declared.node.NamedGroup.{NamedGroup}
use Rattle.cb_model.specs.declared.node.NodeName.{NodeName}
use Rattle.cb_model.proofs.Numbers.{zip_push}
use Rattle.cb_nodes.specs.declared.id.NodeId.{NodeId}
use Rattle.cb_topo.specs.Numbered.{Numbered, topology_of, AreNamed}
use Rattle.cb_chains.specs.Explained.{ExplainsColumns, chains_in}
use Rattle.cb_chains.specs.Names.{IsNamedNumber, name_or_none, name_by_number, named_chains}
use Rattle.cb_explain.specs.declared.explainer.Explainer.{Explainer}
use Rattle.cb_explain.specs.Explained.{HasChainsTo, IsNameOnChain, KeepsNodesOnChains}
use Rattle.cb_span.specs.Orders.{IsAtRank}
use Rattle.cb_outcome.specs.Explained.{ExplainsMembers, ExplainsGroups}
use Rattle.cb_chain_commands.specs.declared.explanation.Explanation.{Explanation}
use Rattle.cb_chain_commands.specs.Explaining.{IsExplanation, KeepsNetwork, HaveMemberChains, HaveGroupChains}

-- ---- two lists, item by item

module _ {X Y : Type 0} where
  zip_weaker : (R Q : X → Y → Type 0) → ((x : X) (y : Y) → R x y → Q x y) → (xs : List X) (ys : List Y) → AllZip R xs ys → AllZip Q xs ys
  zip_weaker R Q also [] [] zip = tt
  zip_weaker R Q also [] (y ∷ ys) zip = absurd zip
  zip_weaker R Q also (x ∷ xs) [] zip = absurd zip
  zip_weaker R Q also (x ∷ xs) (y ∷ ys) zip = (also x y zip.0, zip_weaker R Q also xs ys zip.1)

  zip_both : (R : X → Y → Type 0) (xs us : List X) (ys vs : List Y) → AllZip R xs ys → AllZip R us vs → AllZip R (xs ++ us) (ys ++ vs)
  zip_both R [] us [] vs first second = second
  zip_both R [] us (y ∷ ys) vs first second = absurd first
  zip_both R (x ∷ xs) us [] vs first second = absurd first
  zip_both R (x ∷ xs) us (y ∷ ys) vs first second = (first.0, zip_both R xs us ys vs first.1 second)

  -- where each item has its partner by a function, the lists have
  zip_mapped : (R : X → Y → Type 0) (f : X → Y) → ((x : X) (y : Y) → R x y → f x ≡ y) → (xs : List X) (ys : List Y) → AllZip R xs ys → map f xs ≡ ys
  zip_mapped R f is [] [] zip = refl
  zip_mapped R f is [] (y ∷ ys) zip = absurd zip
  zip_mapped R f is (x ∷ xs) [] zip = absurd zip
  zip_mapped R f is (x ∷ xs) (y ∷ ys) zip =
      let here = is x y zip.0 in
      let later = zip_mapped R f is xs ys zip.1 in
      λ i. here i ∷ later i

  zip_firsts : (R : X → Y → Type 0) (P : X → Type 0) → ((x : X) (y : Y) → R x y → P x) → (xs : List X) (ys : List Y) → AllZip R xs ys → All P xs
  zip_firsts R P is [] [] zip = All-nil P
  zip_firsts R P is [] (y ∷ ys) zip = absurd zip
  zip_firsts R P is (x ∷ xs) [] zip = absurd zip
  zip_firsts R P is (x ∷ xs) (y ∷ ys) zip = All-cons P x xs (is x y zip.0) (zip_firsts R P is xs ys zip.1)

-- what holds of the items of joined lists holds of those of each list
all_parts : {X : Type 0} (P : X → Type 0) (xss : List (List X)) → All P (flat_map (λ xs. xs) xss) → All (All P) xss
all_parts P [] all = All-nil (All P)
all_parts P (xs ∷ xss) all =
    let rest = flat_map (λ ys. ys) xss in
    let long = length-append xs rest in
    All-cons (All P) xs xss
    (λ k d low. subst P (get_or_append_left xs rest d k low) (all k d (omega arith)))
    (all_parts P xss (λ k d low. subst P (get_or-append-add xs rest k d) (all (length xs + k) d (omega arith))))

-- ---- chains of members and groups

module _ (n : Numbered) (old new : Explainer) (keeps : KeepsNodesOnChains old new) where
  name_stays : (node : ℕ) (name : NodeName) → IsNameOnChain n old node name → IsNameOnChain n new node name
  name_stays node name is = record {
    marked = keeps.marks node is.marked;
    at = subst (λ o. IsAtRank n o node name) (sym keeps.order) is.at;
  }

  named_still : (tree : List (List ℕ)) (chains : List (List NodeName)) → AllZip (AllZip (IsNameOnChain n old)) tree chains → AllZip (AllZip (IsNameOnChain n new)) tree chains
  named_still = zip_weaker (AllZip (IsNameOnChain n old)) (AllZip (IsNameOnChain n new)) (zip_weaker (IsNameOnChain n old) (IsNameOnChain n new) name_stays)

  pub members_still : (columns members : List NodeName) (trees : List (List (List ℕ))) → HaveMemberChains n old columns members trees
      → HaveMemberChains n new columns members trees
  members_still columns members trees have = record {
    chains = have.chains;
    explains = have.explains;
    named = named_still (flat_map (λ tree. tree) trees) have.chains have.named;
  }

  pub groups_still : (columns : List NodeName) (groups : List NamedGroup) (trees : List (List (List (List ℕ)))) → HaveGroupChains n old columns groups trees
      → HaveGroupChains n new columns groups trees
  groups_still columns groups trees have = record {
    chains = have.chains;
    explains = have.explains;
    named = zip_weaker (λ (ts : List (List (List ℕ))). AllZip (AllZip (IsNameOnChain n old)) (flat_map (λ tree. tree) ts))
        (λ (ts : List (List (List ℕ))). AllZip (AllZip (IsNameOnChain n new)) (flat_map (λ tree. tree) ts))
        (λ ts cs. named_still (flat_map (λ tree. tree) ts) cs) trees have.chains have.named;
  }

module _ (n : Numbered) (e : Explainer) (columns : List NodeName) where
  pub no_members : HaveMemberChains n e columns [] []
  no_members = record { chains = []; explains = record { found = []; each = tt; are = refl }; named = tt }

  pub members_more : (members : List NodeName) (member : NodeName) (trees : List (List (List ℕ))) (tree : List (List ℕ))
      → HaveMemberChains n e columns members trees → HasChainsTo n e member columns tree
      → HaveMemberChains n e columns (members ++ member ∷ []) (trees ++ tree ∷ [])
  members_more members member trees tree before more =
      let explains = before.explains in
      let found = more.found in
      let one : flat_map chains_in (found ∷ []) ≡ chains_in found = append-nil (chains_in found) in
      let last : flat_map (λ t. t) (trees ++ tree ∷ []) ≡ flat_map (λ t. t) trees ++ tree =
      flat_map-append (λ (t : List (List ℕ)). t) trees (tree ∷ []) ∙ ap (λ (l : List (List ℕ)). flat_map (λ t. t) trees ++ l) (append-nil tree)
      in
      record {
        chains = before.chains ++ chains_in found;
        explains = record {
          found = explains.found ++ found ∷ [];
          each = zip_push (ExplainsColumns (topology_of n) columns) members explains.found member found explains.each more.each;
          are = ap (λ (cs : List (List NodeName)). cs ++ chains_in found) explains.are
              ∙ (ap (λ (cs : List (List NodeName)). flat_map chains_in explains.found ++ cs) (sym one)
              ∙ sym (flat_map-append chains_in explains.found (found ∷ [])));
        };
        named = subst (λ (l : List (List ℕ)). AllZip (AllZip (IsNameOnChain n e)) l (before.chains ++ chains_in found)) (sym last)
            (zip_both (AllZip (IsNameOnChain n e)) (flat_map (λ t. t) trees) tree before.chains (chains_in found) before.named more.named);
      }

  -- members without a chain
  pub without_chains : (members : List NodeName) → ExplainsMembers (topology_of n) columns members [] → HaveMemberChains n e columns members []
  without_chains members explains = record { chains = []; explains = explains; named = tt }

  pub no_groups : HaveGroupChains n e columns [] []
  no_groups = record { chains = []; explains = tt; named = tt }

  pub groups_more : (groups : List NamedGroup) (group : NamedGroup) (trees : List (List (List (List ℕ)))) (more : List (List (List ℕ)))
      → HaveGroupChains n e columns groups trees → HaveMemberChains n e columns group.members more
      → HaveGroupChains n e columns (groups ++ group ∷ []) (trees ++ more ∷ [])
  groups_more groups group trees more before here = record {
    chains = before.chains ++ here.chains ∷ [];
    explains = zip_push (λ (g : NamedGroup). ExplainsMembers (topology_of n) columns g.members) groups before.chains group here.chains before.explains here.explains;
    named = zip_push (λ (ts : List (List (List ℕ))). AllZip (AllZip (IsNameOnChain n e)) (flat_map (λ tree. tree) ts)) trees before.chains more here.chains
        before.named here.named;
  }

-- ---- names for numbers

module _ (n : Numbered) (e : Explainer) (names : List (Option NodeName))
    (are : (node : ℕ) (name : NodeName) → IsNameOnChain n e node name → slice_get names node ≡ Some (Some name)) where
  name_is : (node : ℕ) (name : NodeName) → IsNameOnChain n e node name → name_by_number names node ≡ name
  name_is node name is = ap name_or_none (get_or_from_slice_get names node (Some name) None (are node name is))

  chain_is : (chain : List ℕ) (nodes : List NodeName) → AllZip (IsNameOnChain n e) chain nodes → map (name_by_number names) chain ≡ nodes
  chain_is = zip_mapped (IsNameOnChain n e) (name_by_number names) name_is

  chains_are : (trees : List (List (List ℕ))) (chains : List (List NodeName)) → AllZip (AllZip (IsNameOnChain n e)) (flat_map (λ tree. tree) trees) chains
      → named_chains names trees ≡ chains
  chains_are trees chains zip = zip_mapped (AllZip (IsNameOnChain n e)) (map (name_by_number names)) chain_is (flat_map (λ tree. tree) trees) chains zip

  -- the chains with their names explain the groups
  pub names_explain : (columns : List NodeName) (groups : List NamedGroup) (trees : List (List (List (List ℕ)))) → HaveGroupChains n e columns groups trees
      → ExplainsGroups (topology_of n) columns groups (map (named_chains names) trees)
  names_explain columns groups trees have =
      subst (λ (cs : List (List (List NodeName))). ExplainsGroups (topology_of n) columns groups cs)
      (sym (zip_mapped (λ (ts : List (List (List ℕ))). AllZip (AllZip (IsNameOnChain n e)) (flat_map (λ tree. tree) ts)) (named_chains names) chains_are trees
      have.chains have.named)) have.explains

  chain_named : (chain : List ℕ) (nodes : List NodeName) → AllZip (IsNameOnChain n e) chain nodes → All (IsNamedNumber names) chain
  chain_named = zip_firsts (IsNameOnChain n e) (IsNamedNumber names) (λ node name is. (name, are node name is))

  trees_named : (trees : List (List (List ℕ))) (chains : List (List NodeName)) → AllZip (AllZip (IsNameOnChain n e)) (flat_map (λ tree. tree) trees) chains
      → All (All (All (IsNamedNumber names))) trees
  trees_named trees chains zip =
      all_parts (All (IsNamedNumber names)) trees (zip_firsts (AllZip (IsNameOnChain n e)) (All (IsNamedNumber names)) chain_named (flat_map (λ tree. tree) trees) chains zip)

  -- each node has a name
  pub all_named : (columns : List NodeName) (groups : List NamedGroup) (trees : List (List (List (List ℕ)))) → HaveGroupChains n e columns groups trees
      → All (All (All (All (IsNamedNumber names)))) trees
  all_named columns groups trees have =
      zip_firsts (λ (ts : List (List (List ℕ))). AllZip (AllZip (IsNameOnChain n e)) (flat_map (λ tree. tree) ts)) (All (All (All (IsNamedNumber names)))) trees_named
      trees have.chains have.named

-- ---- searches of a network, one after the other

pub keeps_itself : (e : Explanation) → KeepsNetwork e e
keeps_itself e = record { graph = refl; columns = refl; nodes = record { order = refl; marks = λ node has. has } }

-- chains by a network's columns, and the network is as before
pub record SearchesOn (old new : Explanation) (Has : List NodeName → Type 0) : Type 0 where
  pub network : IsExplanation old.graph new
  pub same : KeepsNetwork old new
  pub chains : (columns : List NodeName) → AreNamed old.graph old.columns columns → Has columns

pub nothing_searched : (e : Explanation) (Has : List NodeName → Type 0) → IsExplanation e.graph e → ((columns : List NodeName) → Has columns) → SearchesOn e e Has
nothing_searched e Has is none = record { network = is; same = keeps_itself e; chains = λ columns named. none columns }

module _ (old now : Explanation) (Has : List NodeName → Type 0) (before : SearchesOn old now Has) where
  -- of the network as it is now
  pub is_of_itself : IsExplanation now.graph now
  is_of_itself = subst (λ (n : Numbered). IsExplanation n now) (sym before.same.graph) before.network

  pub names_stay : (columns : List NodeName) → AreNamed old.graph old.columns columns → AreNamed now.graph now.columns columns
  names_stay columns named =
      subst (λ (n : Numbered). AreNamed n now.columns columns) (sym before.same.graph)
      (subst (λ (ids : List NodeId). AreNamed old.graph ids columns) (sym before.same.columns) named)

  pub names_were : (columns : List NodeName) → AreNamed now.graph now.columns columns → AreNamed old.graph old.columns columns
  names_were columns named =
      subst (λ (n : Numbered). AreNamed n old.columns columns) before.same.graph
      (subst (λ (ids : List NodeId). AreNamed now.graph ids columns) before.same.columns named)

  pub searched_more : (new : Explanation) (More : List NodeName → Type 0) → IsExplanation now.graph new → KeepsNetwork now new
      → ((columns : List NodeName) → AreNamed now.graph now.columns columns → Has columns → More columns) → SearchesOn old new More
  searched_more new More network same more = record {
    network = subst (λ (n : Numbered). IsExplanation n new) before.same.graph network;
    same = record {
      graph = same.graph ∙ before.same.graph;
      columns = same.columns ∙ before.same.columns;
      nodes = record {
        order = same.nodes.order ∙ before.same.nodes.order;
        marks = λ node has. same.nodes.marks node (before.same.nodes.marks node has);
      };
    };
    chains = λ columns named. more columns (names_stay columns named) (before.chains columns named);
  }
