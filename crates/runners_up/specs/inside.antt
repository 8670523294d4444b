-- How a cup ends if each of its groups ends in a given way, and what that shows of a club; the
-- joint finish as the code keeps it; what is asked of other groups; a side; what is known of a
-- club.
pub mod JointEnds
pub mod JointCalls
pub mod GroupsAsked
pub mod GroupSurveys
pub mod SidesAtKeys
pub mod SidesByPlace
pub mod SideLaws
pub mod ClubFindings
