-- The topology: sites in a ring.
use Rattle.std.specs.Prelude.{ℕ, zero, suc, ◌+◌, ◌%◌, List, [], ◌++◌, codes, decimal}

-- an instance of a site is named by a letter and the number of the site
abbrev pub create_line : List ℕ → ℕ → List ℕ → List ℕ
create_line letter site class = codes "create " ++ (letter ++ decimal site) ++ codes " " ++ class ++ codes "\n"

abbrev pub link_line : List ℕ → ℕ → List ℕ → ℕ → List ℕ
link_line letter site to other = codes "link " ++ (letter ++ decimal site) ++ (to ++ decimal other) ++ codes "\n"

-- a site has a box, two ports and a line
abbrev pub created : ℕ → List ℕ
created i =
    create_line (codes "b") i (codes "Box") ++ create_line (codes "p") i (codes "Port") ++ create_line (codes "q") i (codes "Port")
    ++ create_line (codes "l") i (codes "Line")

-- its box has both ports, and its line goes from its first port to the second port of another site
abbrev pub linked_with : ℕ → ℕ → List ℕ
linked_with i j =
    link_line (codes "b") i (codes " ports p") i ++ link_line (codes "b") i (codes " ports q") i ++ link_line (codes "l") i (codes " ends p") i
    ++ link_line (codes "l") i (codes " ends q") j

-- the next site in a ring of that many sites: the first comes after the last
abbrev pub ring_links : ℕ → ℕ → List ℕ
ring_links sites i = linked_with i ((i + 1) % sites)

-- the texts of the sites below a number, one after the other
abbrev pub of_sites : (ℕ → List ℕ) → ℕ → List ℕ
of_sites text zero = []
of_sites text (suc n) = of_sites text n ++ text n

-- all instances, and then all links
abbrev pub topology_text : ℕ → List ℕ
topology_text sites = of_sites created sites ++ of_sites (ring_links sites) sites
