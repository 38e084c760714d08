-- The VLAN tags of link headers.
use Rattle.std.specs.Prelude.{ℕ, ◌%◌, ◌==◌, ◌||◌, List, [], ◌∷◌, ◌++◌, take, Option, Some, None, Ok, Err}
use Rattle.layouts.specs.Bytes.{Bytes}
use Rattle.layouts.specs.Items.{items_in}
use Rattle.layouts.specs.Layout.{Layout, done, refuse, number, block, test, choose, mapped, ◌>>=◌, ◌>>◌}
use Rattle.layouts.specs.Meaning.{Answer}
use Rattle.layouts.specs.Reading.{reading}
use Rattle.layouts.specs.declared.result.ErrorKind.TheVariants.{Tag, Switch}
use Rattle.capture.specs.Link.{is_vlan}
use Rattle.capture.specs.declared.vlan.VlanTags.{VlanTags}

-- The VLAN identifiers in the list.
abbrev pub found_in : VlanTags → List ℕ
found_in t = take t.count t.slots

-- A tag's VLAN identifier: the lower 12 bits of its tag control information (IEEE 802.1Q, section
-- 9.6).
abbrev pub vlan_of : ℕ → ℕ
vlan_of control = control % 4096

unfoldable pub vlan : Layout ℕ
vlan = do
  kind ← number 2
  test (is_vlan kind) Tag
  mapped vlan_of (number 2)

-- LINKTYPE_LINUX_SLL2, if its protocol is that of a tag: the first tag's control information,
-- before the other tags.
unfoldable pub sll2_front : Layout (Option ℕ)
sll2_front = do
  kind ← number 2
  test (is_vlan kind) Tag
  block 18
  mapped (λ control. Some (vlan_of control)) (number 2)

-- The bytes before the tags in Cisco HDLC.
unfoldable pub hdlc_front : Layout (Option ℕ)
hdlc_front = do
  front ← number 2
  test ((front == 0x0f00) || (front == 0x8f00)) Switch
  done None

-- This many bytes before the tags.
unfoldable pub tags_behind : ℕ → Layout (Option ℕ)
tags_behind count = block count >> done None

-- A link that has no tags.
unfoldable pub no_tags : Layout (Option ℕ)
no_tags = refuse Switch

-- The bytes before a link's tags, and the first tag where it is apart from the others. Other link
-- types have no tags.
unfoldable pub tags_front : ℕ → Layout (Option ℕ)
tags_front link_type =
    choose (link_type == 1) (tags_behind 12) (
    choose (link_type == 9) hdlc_front (
    choose (link_type == 50) hdlc_front (
    choose (link_type == 113) (tags_behind 14) (
    choose (link_type == 276) sll2_front (
    no_tags)))))

abbrev pub first_of : Option ℕ → List ℕ
first_of None = []
first_of (Some id) = id ∷ []

abbrev pub tags_in : Answer (Option ℕ) → List ℕ
tags_in (Ok x) = first_of x.0 ++ items_in vlan x.1
tags_in (Err e) = []

-- The VLAN identifiers of the tags of a packet of this link type, outermost first.
abbrev pub link_vlans : ℕ → Bytes → List ℕ
link_vlans link_type b = tags_in (reading (tags_front link_type) b)
