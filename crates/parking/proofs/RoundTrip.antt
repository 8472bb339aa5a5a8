-- S-1, 'Parked boards', and S-8, 'Parked boards with a rate': a sound board that is written in a form that takes its
-- rate and read back is the same board, and an accepted image is the only image of its board in its form. `Bytes` says
-- of a list what a machine's bytes are. Assumes nothing.
use Prim.Native.Nat.{ℕ}
use native.Mathlib.Omega.{arith}
use native.Mathlib.Nat.{zero-add}
use mathlib.Core.Path.{◌≡◌, refl, sym, ap, ap₂, ◌∙◌}
use mathlib.Core.Bool.{true, false}
use mathlib.Core.List.{List, [], ◌∷◌}
use lib.ListN.{length, get_or}
use borrow.Author.Tests.{eqb-true}
use Rattle.wide.proofs.Choices.{either, and_parts, and_join}
use Rattle.format.specs.Format.{members_at}
use Rattle.clock.specs.Clock.{rate_of}
use Rattle.clock.specs.Fields.{fresh_rate}
use Rattle.board.specs.declared.Board.{Board}
use Rattle.board.specs.Board.{BoardFits, sound}
use Rattle.board.proofs.Good.{GoodParts, good, good-parts}
use Rattle.image.specs.declared.Form.{Form}
use Rattle.image.specs.declared.Form.TheVariants.{Old, New}
use Rattle.image.specs.Image.{
  layout,
  layout_of,
  image_length,
  members_of,
  form_members,
  fields_bytes,
  image_of,
  formed,
  members_from,
  empties_hold0,
  board_from,
  board_members,
  rate_from,
}
use Rattle.parking.specs.Parking.{
  form_takes,
  said,
  board_in,
  empties_in,
  sound_in,
  form_refusal,
  reading_in,
  form_of,
  reading_refusal,
  Reading,
  reading_of,
}
use Rattle.format.proofs.Members.{Bytes, ◌▸◌}
use Rattle.parking.proofs.Stored.{
  headers_fit,
  FieldsFit,
  fields_formed,
  fields_back,
  fields_of,
  fields_long,
  fields_fit,
}
use Rattle.parking.proofs.BoardMembers.{
  board-members,
  from-fits,
  members_fit,
  rate_fit,
  board_back,
  board_empties,
}

-- ---- an image in a form, written and read back

-- the members of a sound board fit each form
form_fit : (f : Form) (b : Board) → GoodParts (rate_of b.clock) b → FieldsFit (layout_of f) (form_members f b)
form_fit Old b p = members_fit b p
form_fit New b p = rate_fit (rate_of b.clock) p.known ▸ members_fit b p

-- and have those of S-1's fields among them, and the rate
form-members : (f : Form) (b : Board) → board_members f (form_members f b) ≡ members_of b
form-members Old b = refl
form-members New b = refl

form_rate : (f : Form) (b : Board) → form_takes f (rate_of b.clock) ≡ true →
    rate_from f (form_members f b) ≡ rate_of b.clock
form_rate Old b t = sym (eqb-true (rate_of b.clock) fresh_rate t)
form_rate New b t = refl

-- no refusal
no_refusal : (f : Form) (l : List ℕ) → formed f l ≡ true → sound_in f l ≡ true → form_refusal f l ≡ 0
unfolding form_refusal
no_refusal f l e s = rw (e, s)

read_in : (f : Form) (l : List ℕ) → form_refusal f l ≡ 0 →
    reading_in f l ≡ record { board = board_in f l; form = f; refusal = 0 }
unfolding reading_in
read_in f l e = rw e

module _ (f : Form) (b : Board) (s : sound b ≡ true) (t : form_takes f (rate_of b.clock) ≡ true)
    (w : BoardFits b) where
  fit : FieldsFit (layout_of f) (form_members f b)
  fit = form_fit f b (good-parts (good b w s))

  members-said : said f (image_of f b) ≡ form_members f b
  unfolding image_of
  members-said = fields_back (layout_of f) (form_members f b) fit []

  pub image-formed : formed f (image_of f b) ≡ true
  unfolding image_of
  image-formed = fields_formed (layout_of f) (form_members f b) fit []

  pub board-said : board_in f (image_of f b) ≡ b
  board-said =
      ap₂ board_from (ap (rate_from f) members-said ∙ form_rate f b t)
      (ap (board_members f) members-said ∙ form-members f b)
      ∙ board_back b w

  empties-said : empties_in f (image_of f b) ≡ true
  empties-said =
      ap (λ (mss : List (List ℕ)). empties_hold0 (get_or mss 5 []))
      (ap (board_members f) members-said ∙ form-members f b)
      ∙ board_empties b w

  pub image-accepted : form_refusal f (image_of f b) ≡ 0
  image-accepted =
      no_refusal f (image_of f b) image-formed
      (and_join (empties_in f (image_of f b)) (sound (board_in f (image_of f b))) empties-said
      (ap sound board-said ∙ s))

  pub read-back-in : reading_in f (image_of f b) ≡ record { board = b; form = f; refusal = 0 }
  read-back-in =
      read_in f (image_of f b) image-accepted
      ∙ ap (λ (x : Board). record { board = x; form = f; refusal = 0 }) board-said

-- ---- an accepted image of a form

record Accepted (f : Form) (l : List ℕ) : Type 0 where
  form : formed f l ≡ true
  empties : empties_in f l ≡ true
  sounds : sound (board_in f l) ≡ true

accepted : (f : Form) (l : List ℕ) → form_refusal f l ≡ 0 → Accepted f l
unfolding form_refusal
accepted f l e =
    either (formed f l)
    (λ i. either (sound_in f l)
    (λ s. let p = and_parts (empties_in f l) (sound (board_in f l)) s in
    record { form = i; empties = p.0; sounds = p.1 })
    (λ s. absurd (omega (arith, simp (i, s) at e))))
    (λ i. either (sound_in f l) (λ s. absurd (omega (arith, simp (i, s) at e)))
    (λ s. absurd (omega (arith, simp (i, s) at e))))

module _ (f : Form) (l : List ℕ) (e : form_refusal f l ≡ 0) where
  pub in-sound : sound (board_in f l) ≡ true
  in-sound = (accepted f l e).sounds

-- bytes that are formed so have the form's length
pub formed_long : (f : Form) (l : List ℕ) → formed f l ≡ true → length l ≡ image_length f
formed_long f l e = fields_long l 0 (layout_of f) e ∙ zero-add (image_length f)

-- the form takes the rate of its board
pub form_took : (f : Form) (l : List ℕ) → form_takes f (rate_of (board_in f l).clock) ≡ true
unfolding board_from
form_took Old l = refl
form_took New l = refl

-- members that fit a form: those of S-1's fields fit theirs
headers-fit : (f : Form) → headers_fit (layout_of f) ≡ true
headers-fit Old = refl
headers-fit New = refl

seven_fit : (f : Form) (l : List ℕ) → FieldsFit (layout_of f) (said f l) → FieldsFit layout (board_members f (said f l))
unfolding members_from
seven_fit Old l fit = fit
seven_fit New l (first ▸ fit) = fit

-- and the members of the form are those of a board with these, at the rate that is said
form-of : (f : Form) (l : List ℕ) (b : Board) → rate_of b.clock ≡ rate_from f (said f l) →
    members_of b ≡ board_members f (said f l) → form_members f b ≡ said f l
unfolding members_from members_at
form-of Old l b r e = e
form-of New l b r e = ap₂ (λ (n : ℕ) (mss : List (List ℕ)). (n ∷ []) ∷ mss) r e

board_rate : (rate : ℕ) (mss : List (List ℕ)) → rate_of (board_from rate mss).clock ≡ rate
unfolding board_from
board_rate rate mss = refl

module _ (f : Form) (l : List ℕ) (bytes : Bytes l) (e : form_refusal f l ≡ 0) where
  said-fit : FieldsFit layout (board_members f (said f l))
  said-fit = seven_fit f l (fields_fit l bytes 0 (layout_of f) (headers-fit f) (accepted f l e).form)

  pub in-fits : BoardFits (board_in f l)
  in-fits = from-fits (rate_from f (said f l)) (board_members f (said f l)) said-fit

  -- it is the only one of its board
  pub only-in : l ≡ image_of f (board_in f l)
  unfolding image_of
  only-in =
      let a = accepted f l e in
      let members : form_members f (board_in f l) ≡ said f l =
      form-of f l (board_in f l) (board_rate (rate_from f (said f l)) (board_members f (said f l)))
      (board-members (rate_from f (said f l)) (board_members f (said f l)) said-fit a.empties) in
      sym (ap (fields_bytes (layout_of f)) members ∙ fields_of l bytes 0 (layout_of f) a.form)

-- ---- bytes of the wrong length are formed in no such form

pub formed_not : (f : Form) (l : List ℕ) → (length l ≡ image_length f → ⊥) → formed f l ≡ false
formed_not f l n = either (formed f l) (λ e. absurd (n (formed_long f l e))) (λ e. e)

-- so that no bytes are formed in both
pub one_form : (f : Form) (l : List ℕ) → formed f l ≡ true → form_of l ≡ f
unfolding form_of
one_form New l e = rw e
one_form Old l e =
    let long = formed_long Old l e in
    rw (formed_not New l (λ same. omega (arith, long, same)))

-- ---- an image of either form

-- the refusal of a reading
pub refusal_is : (l : List ℕ) (r : Reading) → r ≡ reading_of l → r.refusal ≡ reading_refusal l
unfolding reading_of reading_refusal reading_in
refusal_is l r e = ap (λ (x : Reading). x.refusal) e

-- written in a form and read back
pub read_back : (f : Form) (b : Board) → sound b ≡ true → form_takes f (rate_of b.clock) ≡ true → BoardFits b →
    reading_of (image_of f b) ≡ record { board = b; form = f; refusal = 0 }
unfolding reading_of
read_back f b s t w =
    ap (λ (g : Form). reading_in g (image_of f b)) (one_form f (image_of f b) (image-formed f b s t w))
    ∙ read-back-in f b s t w

-- in the new form a sound board of any of the three rates
pub any_rate_back : (b : Board) → sound b ≡ true → BoardFits b →
    reading_of (image_of New b) ≡ record { board = b; form = New; refusal = 0 }
any_rate_back b s w = read_back New b s refl w

-- bytes that are accepted in a form are read in it
pub read_as : (f : Form) (l : List ℕ) → form_refusal f l ≡ 0 →
    reading_of l ≡ record { board = board_in f l; form = f; refusal = 0 }
unfolding reading_of
read_as f l e =
    ap (λ (g : Form). reading_in g l) (one_form f l (accepted f l e).form) ∙ read_in f l e

-- what is read where there is no refusal
read_of : (l : List ℕ) → (reading_of l).refusal ≡ 0 →
    (form_refusal (form_of l) l ≡ 0)
    × (reading_of l ≡ record { board = board_in (form_of l) l; form = form_of l; refusal = 0 })
unfolding reading_of reading_in
read_of l e = (e, read_in (form_of l) l e)

module _ (l : List ℕ) (e : (reading_of l).refusal ≡ 0) where
  read : reading_of l ≡ record { board = board_in (form_of l) l; form = form_of l; refusal = 0 }
  read = (read_of l e).1

  pub accepted_sound : sound (reading_of l).board ≡ true
  accepted_sound = rw read (in-sound (form_of l) l (read_of l e).0)

  -- it is formed in the form that the reading gives, has its length, and the rate of a board that the form takes
  pub accepted-formed : formed (reading_of l).form l ≡ true
  accepted-formed = rw read (accepted (form_of l) l (read_of l e).0).form

  pub accepted-long : length l ≡ image_length (reading_of l).form
  accepted-long = formed_long (reading_of l).form l accepted-formed

  pub accepted-rate : form_takes (reading_of l).form (rate_of (reading_of l).board.clock) ≡ true
  accepted-rate = rw read (form_took (form_of l) l)

module _ (l : List ℕ) (bytes : Bytes l) (e : (reading_of l).refusal ≡ 0) where
  pub accepted-fits : BoardFits (reading_of l).board
  accepted-fits = rw (read l e) (in-fits (form_of l) l bytes (read_of l e).0)

  -- an accepted image is the only image of its board in its form
  pub only-image : l ≡ image_of (reading_of l).form (reading_of l).board
  only-image = rw (read l e) (only-in (form_of l) l bytes (read_of l e).0)

-- two accepted images of one board in one form are the same
pub same_board : (l m : List ℕ) → Bytes l → Bytes m → (reading_of l).refusal ≡ 0 → (reading_of m).refusal ≡ 0 →
    (reading_of l).form ≡ (reading_of m).form → (reading_of l).board ≡ (reading_of m).board → l ≡ m
same_board l m p q d e form board = only-image l p d ∙ ap₂ image_of form board ∙ sym (only-image m q e)
