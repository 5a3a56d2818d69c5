-- What document 01 says, as definitions that compute. Read in this order:
--   Lists      the few operations on lists that the rest is written in
--   Limits     document 01's limits
--   Schema     types, relationships, roles; refusal 3
--   Register   objects and links; refusal 5
--   Forms      the forms of a rule's body; scopes and types, refusal 4
--   Meaning    what each form means (OCL 2.4); broken, holds
--   Events     what each event does; refusals 7 to 13 and 15; the register after a batch
--   Reach      the reach rules; quiet; the selected pairs
--   EventList  the event list of a rule; when a listed event type occurs
--   Answers    the answers of the full check and of the batch check
-- What is proved of them:
--   Unmoved    when a value has not moved in a direction
--   Cases      the marked cases (a) to (m), and cases beyond them, as one table
--   Claims     each theorem as a proposition
pub mod Lists
pub mod Limits
pub mod Schema
pub mod Register
pub mod Forms
pub mod Meaning
pub mod Events
pub mod Reach
pub mod EventList
pub mod Answers
pub mod Unmoved
pub mod Cases
pub mod Claims
