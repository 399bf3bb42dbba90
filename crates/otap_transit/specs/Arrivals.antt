-- Sets of tables that are sent, each as a message, and what the far end makes of them.
use Rattle.std.specs.Prelude.{◌≡◌, ◌≤◌, ℕ, ℤ, List, [], length}
use Rattle.std.specs.List.{flat_map}
use Rattle.lists.specs.EachAfter.{EachAfter}
use Rattle.lists.specs.Payloads.{PayloadIn}
use Rattle.otlp_model.specs.Limits.{item_limit}
use Rattle.otap_capture.specs.Batch.{ReadsBatch, batch_content, payloads_in}
use Rattle.otap_capture.specs.Capture.{Message}
use Rattle.otap_cells.specs.GivenIds.{ReadAs}
use Rattle.otap_cells.specs.Payload.{main_of}
use Rattle.otap_cells.specs.Sets.{rows_named}
use Rattle.otap_cells.specs.Tables.{Table}
use Rattle.otap_cells.specs.Weights.{row_weight_limit, weight_of_tables}
use Rattle.otap_consume.specs.Defects.{Accepts, tables_of}
use Rattle.otap_consume.specs.LateStages.{HasFineRows}
use Rattle.otap_consume.specs.Receiving.{IsInFormat}
use Rattle.otap_produce.specs.Policy.{IsMessageFor}
use Rattle.otap_produce.specs.Senders.{IsLaidFor}
use Rattle.otap_produce.specs.TableOrder.{HaveWritable}
use Rattle.otap_signals.specs.Meanings.{Meaning}
use Rattle.otap_transit.specs.Transits.{payloads_in_all}

-- a set of tables, which is sent under a batch id
pub record SetIn : Type 0 where
  pub id : ℤ
  pub tables : List Table

-- the tables of sets, in order
abbrev pub tables_in_all : List SetIn → List Table
tables_in_all sets = flat_map (λ set. set.tables) sets

-- ---- what is sent

-- TABLES ARE FIT TO BE SENT: they can be written, in the order of the signal's kinds and within the limits; and nothing is wrong
-- with tables that read as these
pub record AreFit (m : Meaning) (tables : List Table) : Type 0 where
  pub writable : HaveWritable m.signal tables
  pub items : length (rows_named (main_of m.signal) tables) ≤ item_limit
  pub rows : weight_of_tables tables ≤ row_weight_limit
  pub fine : (read : List Table) → ReadAs read tables → HasFineRows m read

abbrev pub IsFitSet : Meaning → SetIn → Type 0
IsFitSet m set = AreFit m set.tables

-- THE MESSAGE OF A SET, after the sets and the messages of its segment before it
abbrev pub IsMessageOfSet : List SetIn → List (List ℕ) → SetIn → List ℕ → Type 0
IsMessageOfSet sets messages set message = IsMessageFor (tables_in_all sets) (payloads_in_all messages) set.id set.tables message

-- and those of all sets of a segment
abbrev pub AreMessagesOfSets : List SetIn → List (List ℕ) → Type 0
AreMessagesOfSets sets messages = EachAfter IsMessageOfSet [] [] sets messages

-- each of them is laid out
abbrev pub IsLaidSet : List SetIn → List (List ℕ) → SetIn → List ℕ → Type 0
IsLaidSet sets messages set message = IsLaidFor (tables_in_all sets) (payloads_in_all messages) set.tables message

abbrev pub AreLaidSets : List SetIn → List (List ℕ) → Type 0
AreLaidSets sets messages = EachAfter IsLaidSet [] [] sets messages

-- ---- what arrives

-- TABLES ARRIVE by a message, after the payloads of its segment before it: it is in the format, its batch has the id and is
-- accepted, and the tables of the batch read as those that were sent, with nothing wrong in their rows
pub record Arrives (m : Meaning) (past : List PayloadIn) (number : ℤ) (tables : List Table) (message : List ℕ) : Type 0 where
  pub format : IsInFormat m past (Message message)
  pub reads : ReadsBatch message (batch_content message)
  pub id : (batch_content message).id ≡ number
  pub accepts : Accepts m.signal past (payloads_in message)
  pub are : ReadAs (tables_of m.signal past (payloads_in message)) tables
  pub fine : HasFineRows m (tables_of m.signal past (payloads_in message))

-- A SET ARRIVES, after the sets and the messages of its segment before it
abbrev pub SetArrives : Meaning → List SetIn → List (List ℕ) → SetIn → List ℕ → Type 0
SetArrives m sets messages set message = Arrives m (payloads_in_all messages) set.id set.tables message
