-- The edits of an inverse.
use Rattle.std.specs.Prelude.{◌≡◌, List, [], ◌∷◌, ◌++◌, ⊤}
use Rattle.cb_network.specs.declared.edit.Edit.{Edit}
use Rattle.cb_network.specs.declared.edit.Edit.TheVariants.{Create, Delete, Link, Unlink, Mute, Unmute}
use Rattle.cb_inverse.specs.declared.inverse.Inverse.{Inverse}
use Rattle.cb_inverse.specs.declared.inverse.Inverse.TheVariants.{Reverse, Rebuild}
use Rattle.cb_inverse.specs.declared.rebuild.Rebuild.{Rebuild as TheRebuild}

-- all but the Create
abbrev pub rest_of : TheRebuild → List Edit
rest_of r = r.links.items ++ r.mutes.items

-- all that make the instance again, in the order in which they are made
abbrev pub rebuild_edits : TheRebuild → List Edit
rebuild_edits r = r.create ∷ rest_of r

-- all of them, in the order in which they are made
abbrev pub inverse_edits : Inverse → List Edit
inverse_edits (Reverse back) = back ∷ []
inverse_edits (Rebuild r) = rebuild_edits r

-- where memory can run out in the middle, the edit is there to be made again
abbrev pub HasAgain : Edit → Inverse → Type 0
HasAgain edit (Reverse back) = ⊤
HasAgain edit (Rebuild r) = r.again ≡ edit

-- the edit that undoes this one; of a Delete nothing is said
abbrev pub IsReverse : Edit → Edit → Type 0
IsReverse (Create name class) back = back ≡ Delete name
IsReverse (Delete name) back = ⊤
IsReverse (Link a rel b) back = back ≡ Unlink a rel b
IsReverse (Unlink a rel b) back = back ≡ Link a rel b
IsReverse (Mute event name) back = back ≡ Unmute event name
IsReverse (Unmute event name) back = back ≡ Mute event name
